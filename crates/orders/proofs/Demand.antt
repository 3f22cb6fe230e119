-- What the answer to an order line says, from the pattern's bytes and in the words of demand 2.
-- Assumes nothing.
use mathlib.Core.Path.{◌≡◌, refl, sym, ◌∙◌, subst}
use mathlib.Core.Logic.{◌⊎◌, inl, inr, ◌↔◌}
use Prim.Native.Nat.{ℕ, ◌<◌, min}
use mathlib.Core.List.{List}
use native.Mathlib.Omega.{arith}
use native.Mathlib.Decide.{dec_lt}
use lib.ListN.{length, length-take}
use lib.Seq.{take_all}
use Rattle.theory.specs.Pattern.{Re}
use Rattle.theory.specs.Demand.{GreedyTakes, PosixTakes, NoMatch}
use Rattle.theory.proofs.Demand.{greedy_takes, posix_takes, greedy_none}
use Rattle.grammar.specs.Grammar.{Alternation}
use Rattle.grammar.specs.Loaded.{Accepts}
use Rattle.grammar.specs.WriteOut.{write_out}
use Rattle.grammar.proofs.Loaded.{one_tree, accepts_not_refuses}
use Rattle.std.specs.Prelude.{Ok}
use Rattle.matchers.specs.Tables.{Ready}
use Rattle.readings.specs.declared.Tables.{Tables}
use Rattle.readings.specs.Tables.{tables_in, Prepared, ready}
use Rattle.printing.specs.declared.Output.{Output}
use Rattle.printing.specs.Text.{Prints, RefusedLine, SpansLine, none_line}
use Rattle.lines.specs.declared.Input.{Input}
use Rattle.lines.specs.Lines.{kept}
use Rattle.lines.specs.Answers.{Served}
use Rattle.lines.proofs.Serving.{served_map}
use Rattle.orders.specs.declared.Orders.{Orders}
use Rattle.orders.specs.declared.Orders.TheVariants.{Spans}
use Rattle.orders.specs.Orders.{OrderLine, OrderAnswer, Answered, OrdersServed, ForSpans}

-- 9 for a line above 1,024 bytes; else the spans that demand 2 asks for, or 'none' where no part of the line matches.
pub order_means : {r : Re} {l w : List ℕ} → OrderLine r l w
    → ((1024 < length l) × RefusedLine 9 0 w) ⊎ (((i j k : ℕ) × GreedyTakes r l i j × PosixTakes r l i k × SpansLine i j k w) ⊎ (NoMatch r l × (w ≡ none_line)))
order_means (OrderLine.long h is) = inl (h, is)
order_means {r} {l} (OrderLine.cut {i} {j} {k} h g p is) = inr (inl (i, j, k, (greedy_takes r l i j).0 g, (posix_takes r l i k).0 p, is))
order_means {r} {l} (OrderLine.uncut h g p is) = inr (inr ((greedy_none r l).0 g, is))

-- WHAT IS KEPT IS ENOUGH: an order line and its first 1,025 bytes have the same answer.
pub order_kept : (r : Re) (l w : List ℕ) → OrderLine r (kept l) w ↔ OrderLine r l w
order_kept r l w =
    elim (dec_lt 1024 (length l)) [
      | yes h ↦ (λ o. again h o, λ o. first h o)
      | no h ↦ (let e = take_all 1025 l (omega arith) in (λ o. subst (λ x. OrderLine r x w) e o, λ o. subst (λ x. OrderLine r x w) (sym e) o))
    ]
  where
    size : 1024 < length l → length (kept l) ≡ 1025
    size h = let p : length (kept l) ≡ min 1025 (length l) = length-take 1025 l in omega arith

    again : 1024 < length l → OrderLine r (kept l) w → OrderLine r l w
    again h (OrderLine.long i is) = OrderLine.long h is
    again h (OrderLine.cut i g p is) = absurd (let z = size h in omega arith)
    again h (OrderLine.uncut i g p is) = absurd (let z = size h in omega arith)

    first : 1024 < length l → OrderLine r l w → OrderLine r (kept l) w
    first h (OrderLine.long i is) = OrderLine.long (let z = size h in omega arith) is
    first h (OrderLine.cut i g p is) = absurd (omega arith)
    first h (OrderLine.uncut i g p is) = absurd (omega arith)

-- The tables that a pattern of the grammar is prepared with are its own,
module _ {loaded p : List ℕ} (a : Alternation) (reads : Accepts loaded p a) {t : Tables} (prepared : ForSpans loaded p (Ok (Spans t))) where
  own_tables : Ready (write_out loaded a) (tables_in t)
  own_tables = go prepared
    where
      go : Prepared loaded p (Ok t) → Ready (write_out loaded a) (tables_in t)
      go (ready {a = b} h i) = subst (λ c. Ready (write_out loaded c) (tables_in t)) (one_tree loaded p b a h reads) i

  -- THE ANSWER TO AN ORDER LINE IS THE PATTERN'S, whatever the line: nothing is left to be asked of the tables.
  pub order_answered : {l : List ℕ} {o o' : Output} → Answered (Spans t) l o o' → Prints 392 (OrderLine (write_out loaded a) l) o o'
  order_answered (w, h, size, added) = (w, h.answer (write_out loaded a) own_tables, size, added)

  -- and so are the answers to the lines of a chunk.
  pub orders_answered : {s r : Input} {o o' : Output} {y : Orders} → OrdersServed (Spans t) s o r o' y
      → Served (λ (x : Unit {0}) l w (y : Unit {0}). OrderLine (write_out loaded a) l w) 392 s o tt r o' tt
  orders_answered v =
      served_map (λ x. x ≡ Spans t) (λ x. tt)
      (λ x y l w q (e, h). ((subst (λ z. OrderAnswer z l w) q h).answer (write_out loaded a) own_tables, e ∙ q)) refl v
