-- One turn of the search, case by case: what the table then holds, and where the search then stands.
-- Assumes nothing.
use mathlib.Core.Path.{◌≡◌, refl, sym, ap, ap₂, ◌∙◌, subst}
use mathlib.Core.Logic.{◌≢◌}
use Prim.Native.Nat.{ℕ, zero, suc, ◌+◌, ◌*◌, ◌≤◌, ◌<◌}
use mathlib.Core.Bool.{true, false}
use mathlib.Core.List.{List, [], ◌∷◌, ◌++◌, append-nil}
use native.Mathlib.Omega.{arith}
use native.Mathlib.Nat.{mul-one, mul-suc}
use lib.ListN.{length}
use lib.Seq.{sets}
use lib.Dec.{T}
use Rattle.theory.specs.Pattern.{Re, Numbered, SameGroup}
use Rattle.theory.specs.Standing.{standing, is_witness}
use Rattle.theory.specs.Records.{at, NoWitness, Alike}
use Rattle.theory.proofs.Lines.{snoc_size, snoc_each, snoc_old, snoc_last, below_snoc}
use Rattle.theory.specs.Code.Search.{begin, known, new, turn, Search}
use Rattle.theory.proofs.Search.{trace_bytes}
use Rattle.theory.proofs.Records.{carries, search_records, search_complete}
use Rattle.theory.proofs.Run.{start_no_witness}
use Rattle.theory.proofs.Groups.{pass_over}
use Rattle.verdict.specs.Record.{form_of, record_bytes}
use Rattle.verdict.specs.Table.{record_of, records_of, records, slots, onto}
use Rattle.verdict.proofs.Tables.{records_size, record_size, records_add, record_is, record_zero, onto_more, slots_fit, onto_sets}
use Rattle.standing.specs.declared.Standing.{Standing}
use Rattle.standing.specs.Stands.{Stands}
use Rattle.groups.specs.Numbers.{shares, is_lowest}
use Rattle.search.specs.declared.Looking.{Looking}
use Rattle.search.specs.Looking.{no_looking, Takes}
use Rattle.search.specs.Ends.{HoldsRecords, AllFound, WitnessFound, SlotsFull}
use Rattle.search.specs.Turns.{more, looked_so_far, Tallied, Searching, Working}
use Rattle.search.proofs.Tallies.{so_far_none, tally_begin, tally_pass, tally_known, tally_last, tally_new, tally_turn, takes_nothing, takes_all, takes_witness, takes_full}

-- The table with one record, and with none.
one_record : (r : Re) (t₀ : List ℕ) → 0 < slots (form_of r) (length t₀) → onto t₀ (records (form_of r) (standing r) ([] ∷ [])) ≡ sets t₀ 0 (record_bytes (form_of r) (standing r []) 0 0)
unfolding records_of
one_record r t₀ h =
    ap (onto t₀) (append-nil _ ∙ record_zero (form_of r) r [])
    ∙ onto_sets t₀ (record_bytes (form_of r) (standing r []) 0 0) (omega (arith, record_size (form_of r) (standing r []) 0 0, slots_fit (form_of r) (length t₀) 1 h, mul-one (form_of r).bytes))

no_record : (r : Re) (t₀ : List ℕ) → t₀ ≡ onto t₀ (records (form_of r) (standing r) [])
unfolding records_of
no_record r t₀ = refl

-- The line that the byte c makes of line q.
abbrev pub line : {r : Re} {t₀ : List ℕ} {s : Standing} {q c n : ℕ} {y : Looking} {t : List ℕ} → Working r t₀ s q c n y t → List ℕ
line {q = q} {c = c} w = at w.state.lines q ++ (c ∷ [])

module _ {r : Re} (d : Numbered 0 r) {t₀ : List ℕ} where
  module _ {s : Standing} {q c n : ℕ} {y : Looking} {t : List ℕ} (w : Working r t₀ s q c n y t) (byte : c < 256) where
    here : q < length w.state.lines
    here = omega (arith, w.inside, w.state.size)

    keeps : {y' : Looking} → Search r w.state.lines q (suc c) → Tallied r (looked_so_far r w.state.lines q (suc c)) w.state.lines y' → Working r t₀ s q (suc c) n y' t
    keeps x y = record {
      state = record { lines = w.state.lines; size = w.state.size; holds = w.state.holds; none = w.state.none; search = x; tallied = y };
      inside = w.inside;
      stands = w.stands;
    }

    -- The byte is not the lowest of its group.
    pub passed_turn : (b : ℕ) → b < c → SameGroup r b c → is_lowest (shares r) c ≡ false → Working r t₀ s q (suc c) n y t
    passed_turn b l g e = keeps (pass_over r d w.state.search here byte b l g) (tally_pass r q c w.state.tallied e)

    module _ (lowest : is_lowest (shares r) c ≡ true) where
      -- A record has the standing.
      pub known_turn : (k : ℕ) → k < n → standing r (at w.state.lines k) ≡ standing r (line w) → ((j : ℕ) → j < k → standing r (at w.state.lines j) ≢ standing r (line w))
          → Working r t₀ s q (suc c) n (more y (k + 1)) t
      known_turn k l e before =
          let i : k < length w.state.lines = omega (arith, w.state.size) in
          keeps (known w.state.search here byte k i e) (tally_known r q c w.state.tallied lowest k i e before)

      module _ (fresh : (k : ℕ) → k < n → standing r (at w.state.lines k) ≢ standing r (line w)) where
        grown : Search r (w.state.lines ++ (line w ∷ [])) q (suc c)
        grown = new w.state.search here byte λ k l. fresh k (omega (arith, w.state.size))

        unmet : (k : ℕ) → k < length w.state.lines → standing r (at w.state.lines k) ≢ standing r (line w)
        unmet k l = fresh k (omega (arith, w.state.size))

        -- The last look.
        last : Tallied r (looked_so_far r w.state.lines q c ++ (line w ∷ [])) (w.state.lines ++ (line w ∷ [])) (more y n)
        last = subst (λ k. Tallied r (looked_so_far r w.state.lines q c ++ (line w ∷ [])) (w.state.lines ++ (line w ∷ [])) (more y k)) w.state.size (tally_last r q c w.state.tallied lowest unmet)

        -- No slot is left.
        pub full_turn : slots (form_of r) (length t₀) ≤ n → SlotsFull r t₀ t × Takes r (slots (form_of r) (length t₀)) (more y n)
        full_turn h =
            let size : length w.state.lines ≡ slots (form_of r) (length t₀) = omega (arith, w.state.size, w.state.holds.fits) in (
              record {
                lines = w.state.lines;
                size = size;
                holds = w.state.holds;
                full = record {
                  records = search_records r d w.state.search;
                  none = w.state.none;
                  more = (line w, below_snoc 256 (at w.state.lines q) c (trace_bytes (standing r) (carries r d) 256 w.state.search q here) byte, unmet);
                };
              },
              takes_full r (slots (form_of r) (length t₀)) w.state.lines q c here byte lowest unmet d size w.state.none (search_records r d grown) w.state.tallied last,
            )

        module _ (room : n < slots (form_of r) (length t₀)) {t' : List ℕ} (stored : t' ≡ sets t ((form_of r).bytes * n) (record_bytes (form_of r) (standing r (line w)) q c)) where
          longer : length (w.state.lines ++ (line w ∷ [])) ≡ suc n
          longer = omega (arith, snoc_size w.state.lines (line w), w.state.size)

          added : HoldsRecords r t₀ (w.state.lines ++ (line w ∷ [])) t'
          added =
              let L = w.state.lines in
              let u = line w in
              let old : standing r (at (L ++ (u ∷ [])) q) ≡ standing r (at L q) = ap (standing r) (snoc_old L u q here) in
              let new-record : record_of (form_of r) (standing r) (L ++ (u ∷ [])) u ≡ record_bytes (form_of r) (standing r u) q c = record_is (form_of r) r (search_records r d grown) (at L q) c q (omega (arith, here, snoc_size L u)) old in
              let size : length (records (form_of r) (standing r) L) ≡ (form_of r).bytes * n = records_size (form_of r) r L L ∙ ap (λ k. (form_of r).bytes * k) w.state.size in
              let space : length (records (form_of r) (standing r) L) + length (record_bytes (form_of r) (standing r u) q c) ≤ length t₀ = omega (arith, size, record_size (form_of r) (standing r u) q c, slots_fit (form_of r) (length t₀) (suc n) room, mul-suc (form_of r).bytes n) in
              record {
                fits = omega (arith, longer, room);
                table =
                    stored
                    ∙ ap₂ (λ a k. sets a k (record_bytes (form_of r) (standing r u) q c)) w.state.holds.table (sym size)
                    ∙ sym (onto_more t₀ (records (form_of r) (standing r) L) (record_bytes (form_of r) (standing r u) q c) space)
                    ∙ ap (λ x. onto t₀ (records (form_of r) (standing r) L ++ x)) (sym new-record)
                    ∙ ap (onto t₀) (sym (records_add (form_of r) r u (search_records r d w.state.search)));
              }

          -- A new record, no witness's,
          pub new_turn : (T (is_witness (standing r (line w))) → ⊥) → Working r t₀ s q (suc c) (suc n) (more y n) t'
          new_turn h = record {
            state = record {
              lines = w.state.lines ++ (line w ∷ []);
              size = longer;
              holds = added;
              none = snoc_each w.state.lines (line w) (λ k. T (is_witness (standing r (at (w.state.lines ++ (line w ∷ [])) k))) → ⊥)
                  (λ k l i. w.state.none k l (rw (snoc_old w.state.lines (line w) k l) at i))
                  (λ i. h (rw (snoc_last w.state.lines (line w)) at i));
              search = grown;
              tallied = subst (λ k. Tallied r (looked_so_far r (w.state.lines ++ (line w ∷ [])) q (suc c)) (w.state.lines ++ (line w ∷ [])) (more y k)) w.state.size (tally_new r q c w.state.tallied lowest unmet here);
            };
            inside = omega (arith, w.inside);
            stands = subst (λ u. Stands r s (standing r u)) (sym (snoc_old w.state.lines (line w) q here)) w.stands;
          }

          -- or a witness's.
          pub witness_turn : T (is_witness (standing r (line w))) → WitnessFound r t₀ (suc n) t' × Takes r (slots (form_of r) (length t₀)) (more y n)
          witness_turn h = (
            record {
              lines = w.state.lines;
              line = line w;
              size = ap suc w.state.size;
              holds = added;
              none = w.state.none;
              witness = h;
              q = q;
              c = suc c;
              search = grown;
            },
            takes_witness r (slots (form_of r) (length t₀)) w.state.lines q c here byte lowest unmet (omega (arith, w.state.size)) (record { records = search_records r d grown; none = w.state.none; witness = h }) w.state.tallied last,
          )

  -- Record q is carried on by all bytes.
  pub next_record : {s : Standing} {q n : ℕ} {y : Looking} {t : List ℕ} → Working r t₀ s q 256 n y t → Searching r t₀ (suc q) 0 n y t
  next_record {q = q} w =
      let here : q < length w.state.lines = omega (arith, w.inside, w.state.size) in
      record {
        lines = w.state.lines;
        size = w.state.size;
        holds = w.state.holds;
        none = w.state.none;
        search = turn w.state.search here;
        tallied = tally_turn r q here w.state.tallied;
      }

  -- All records are.
  pub all_found : {n : ℕ} {y : Looking} {t : List ℕ} → 0 < slots (form_of r) (length t₀) → Searching r t₀ n 0 n y t → AllFound r t₀ n t × Takes r (slots (form_of r) (length t₀)) y
  all_found {n} {y} h x = (
    record { lines = x.lines; size = x.size; holds = x.holds; alike = alike },
    takes_all r (slots (form_of r) (length t₀)) h x.holds.fits alike (subst (λ k. Tallied r (looked_so_far r x.lines k 0) x.lines y) (sym x.size) x.tallied),
  )
    where
      alike : Alike (standing r) x.lines
      alike = record {
        records = search_records r d x.search;
        complete = search_complete r d (subst (λ k. Search r x.lines k 0) (sym x.size) x.search);
        none = x.none;
      }

-- The empty line's record stands in slot 0,
pub first_record : (r : Re) {t₀ t : List ℕ} → 0 < slots (form_of r) (length t₀) → t ≡ sets t₀ 0 (record_bytes (form_of r) (standing r []) 0 0) → Searching r t₀ 0 0 1 no_looking t
first_record r {t₀} h e = record {
  lines = [] ∷ [];
  size = refl;
  holds = record { fits = h; table = e ∙ sym (one_record r t₀ h) };
  none = none;
  search = begin;
  tallied = tally_begin r;
}
  where
    none : NoWitness (standing r) ([] ∷ [])
    none zero l i = start_no_witness r i
    none (suc m) l i = absurd (omega arith)

-- if there is one.
pub no_slot : (r : Re) {t₀ : List ℕ} → Numbered 0 r → slots (form_of r) (length t₀) ≡ 0 → SlotsFull r t₀ t₀ × Takes r (slots (form_of r) (length t₀)) no_looking
no_slot r {t₀} d h = (
  record {
    lines = [];
    size = sym h;
    holds = record { fits = omega arith; table = no_record r t₀ };
    full = record {
      records = record { bytes = λ k l. absurd (omega arith); before = λ k l. absurd (omega arith); fresh = λ j k o l. absurd (omega arith) };
      none = λ k l. absurd (omega arith);
      more = ([], tt, λ k l. absurd (omega arith));
    };
  },
  takes_nothing r (slots (form_of r) (length t₀)) d h (subst (λ W. Tallied r W ([] ∷ []) no_looking) (so_far_none r ([] ∷ [])) (tally_begin r)),
)
