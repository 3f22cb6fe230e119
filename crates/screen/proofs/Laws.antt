-- What is shown of a pattern, and what a readable line is for it, from its bytes.
-- Assumes nothing.
use mathlib.Core.Path.{◌≡◌, ap, ◌∙◌, subst}
use Prim.Native.Nat.{ℕ}
use mathlib.Core.List.{List}
use native.Mathlib.Omega.{arith}
use lib.ListN.{length, length-map}
use Rattle.theory.specs.Spans.{greedy, posix, CutDifferently}
use Rattle.grammar.specs.Grammar.{Alternation}
use Rattle.grammar.specs.Loaded.{Accepts, Refuses, Answers}
use Rattle.grammar.specs.WriteOut.{write_out}
use Rattle.grammar.specs.Refusals as Due
use Rattle.grammar.proofs.Size.{write_out_numbered}
use Rattle.grammar.proofs.Loaded.{one_tree, accepts_not_refuses}
use Rattle.groups.specs.Numbers.{shares, groups_of}
use Rattle.groups.specs.Readable.{readable_by, readable}
use Rattle.groups.proofs.ReadableLines.{readable_greedy, readable_posix, readable_cut}
use Rattle.std.specs.Prelude.{Result, Ok, Err}
use Rattle.groups.specs.declared.Groups.{Groups}
use Rattle.reader.specs.declared.refusal.Refusal.{Refusal}
use Rattle.reader.specs.Numbers.{number_of}
use Rattle.screen.specs.Shows.{shown, refused, due, Shows, refusal_of, due_line, Rewrites}

-- What is shown of an accepted pattern are its groups,
pub shows_accepted : {loaded p : List ℕ} {g : Groups} → Shows loaded p (Ok g) → (t : Alternation) × Accepts loaded p t × (g ≡ groups_of (write_out loaded t))
shows_accepted {loaded} {p} {g} h = go h.answer h.right h.is
  where
    go : (y : Due.Answer) → Answers loaded p y → shown g ≡ due loaded y → (t : Alternation) × Accepts loaded p t × (g ≡ groups_of (write_out loaded t))
    go (Due.accepted t) r f = (t, r, cc)
    go (Due.refused n q) r f = absurd (let z : ◌≡◌ {A = ℕ} 0 1 = cc in omega arith)

-- and a refused one has the fault that is told.
pub shows_refused : {loaded p : List ℕ} {e : Refusal} → Shows loaded p (Err e) → Refuses loaded p (number_of e.fault) e.place
shows_refused {loaded} {p} {e} h = go h.answer h.right h.is
  where
    go : (y : Due.Answer) → Answers loaded p y → refused (number_of e.fault) e.place ≡ due loaded y → Refuses loaded p (number_of e.fault) e.place
    go (Due.accepted t) r f = absurd (let z : ◌≡◌ {A = ℕ} 0 1 = cc in omega arith)
    go (Due.refused m k) r f =
        let number : m ≡ number_of e.fault = cc in
        let place : k ≡ e.place = cc in
        subst (λ i. Refuses loaded p i e.place) number (subst (Refuses loaded p m) place r)

-- A line keeps its length.
pub rewrites_length : {loaded p w w' : List ℕ} {x : Result Unit Refusal} → Rewrites loaded p w x w' → length w' ≡ length w
rewrites_length {loaded} {p} {w} {w'} {x} h = go h.answer h.is
  where
    go : (y : Due.Answer) → (refusal_of x, w') ≡ due_line loaded y w → length w' ≡ length w
    go (Due.accepted t) e = ap (λ z. length z.1) e ∙ length-map w (readable_by (shares (write_out loaded t)))
    go (Due.refused n q) e = ap (λ z. length z.1) e

-- The line of an accepted pattern is made readable for it.
pub rewrites_accepted : {loaded p w w' : List ℕ} {x : Result Unit Refusal} → Rewrites loaded p w x w' → (a : Alternation) → Accepts loaded p a → w' ≡ readable (write_out loaded a) w
rewrites_accepted {loaded} {p} {w} {w'} {x} h a reads = go h.answer h.right h.is
  where
    go : (y : Due.Answer) → Answers loaded p y → (refusal_of x, w') ≡ due_line loaded y w → w' ≡ readable (write_out loaded a) w
    go (Due.accepted t) r e = ap (λ z. z.1) e ∙ ap (λ b. readable (write_out loaded b) w) (one_tree loaded p t a r reads)
    go (Due.refused n q) r e = absurd (accepts_not_refuses loaded p a n q reads r)

-- For every table, every pattern and every line the readable line has both spans of the line.
module _ (loaded : List ℕ) (a : Alternation) (w : List ℕ) where
  pub shown_greedy : greedy (write_out loaded a) (readable (write_out loaded a) w) ≡ greedy (write_out loaded a) w
  shown_greedy = readable_greedy (write_out loaded a) (write_out_numbered loaded a) w

  pub shown_posix : posix (write_out loaded a) (readable (write_out loaded a) w) ≡ posix (write_out loaded a) w
  shown_posix = readable_posix (write_out loaded a) (write_out_numbered loaded a) w

  -- THE READABLE LINE OF A LINE THAT IS CUT DIFFERENTLY IS CUT DIFFERENTLY, AT THE SAME PLACES.
  pub shown_cut : CutDifferently (write_out loaded a) w → CutDifferently (write_out loaded a) (readable (write_out loaded a) w)
  shown_cut = readable_cut (write_out loaded a) (write_out_numbered loaded a) w
