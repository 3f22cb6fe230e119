-- Lists in order of preference: what stands first, and the order of the ends from the order of the ways.
-- Assumes nothing.
use mathlib.Core.Path.{◌≡◌, refl, sym, ap, ◌∙◌, subst, subst₂}
use mathlib.Core.Logic.{◌⊎◌, inl, inr, ◌≢◌}
use Prim.Native.Nat.{ℕ}
use mathlib.Core.Bool.{Bool, true, false}
use lib.Dec.{T}
use mathlib.Core.List.Memᴰ
use mathlib.Core.List.Memᴰ.{head}
use mathlib.Core.List.Memᴰ.{tail}
use mathlib.Core.List.{List, [], ◌∷◌, ◌++◌, map, Memᴰ as Mem}
use native.Mathlib.Decide.{ℕ_discrete}
use Rattle.theory.specs.Outcomes.{when}
use Rattle.theory.specs.Preference.{Least, ByLeast, by_least}
use Rattle.theory.proofs.Tests.{either}

-- a stands in the list before any b.
pub data Before {A : Type 0} (a b : A) : List A → Type 0 where
  now : {c : A} {l : List A} → a ≡ c → b ≢ c → Before a b (c ∷ l)
  later : {c : A} {l : List A} → b ≢ c → Before a b l → Before a b (c ∷ l)

module _ {A : Type 0} where
  pub before_in : {a b : A} {l : List A} → Before a b l → Mem a l
  before_in (now e n) = head e
  before_in (later n h) = tail (before_in h)

  pub before_self : {a : A} {l : List A} → Before a a l → ⊥
  before_self (now e n) = n e
  before_self (later n h) = before_self h

  pub before_append : {a b : A} (l : List A) {m : List A} → Before a b (l ++ m) → Before a b l ⊎ ((Mem b l → ⊥) × Before a b m)
  before_append [] h = inr (λ t. Memᴰ.not-nil t, h)
  before_append (c ∷ l) (now e n) = inl (now e n)
  before_append (c ∷ l) (later n h) = either (λ t. inl (later n t)) (λ t. inr (λ m. either n t.0 (Memᴰ.cases_cons m), t.1)) (before_append l h)

  pub before_trans : {a b c : A} {l : List A} → Before a b l → Before b c l → Before a c l
  before_trans (now e n) (now f m) = absurd (n f)
  before_trans (now e n) (later m g) = now e m
  before_trans (later n h) (now f m) = absurd (n f)
  before_trans (later n h) (later m g) = later m (before_trans h g)

  pub before_total : Discrete A → {a b : A} (l : List A) → Mem a l → (a ≡ b) ⊎ (Before a b l ⊎ Before b a l)
  before_total dec [] m = absurd (Memᴰ.not-nil m)
  before_total dec {a} {b} (c ∷ l) m = go (before_total dec l) (dec a c) (dec b c)
    where
      go : (Mem a l → (a ≡ b) ⊎ (Before a b l ⊎ Before b a l)) → Dec (a ≡ c) → Dec (b ≡ c) → (a ≡ b) ⊎ (Before a b (c ∷ l) ⊎ Before b a (c ∷ l))
      go below (yes e) (yes f) = inl (e ∙ sym f)
      go below (yes e) (no f) = inr (inl (now e f))
      go below (no e) (yes f) = inr (inr (now f e))
      go below (no e) (no f) =
          either (λ q. inl q) (λ t. inr (either (λ u. inl (later f u)) (λ u. inr (later e u)) t)) (below (either (λ q. absurd (e q)) (λ n. n) (Memᴰ.cases_cons m)))

pub before_map : {A B : Type 0} {f : A → B} → ((a b : A) → f a ≡ f b → a ≡ b) → {c d : B} {a b : A} (l : List A) → c ≡ f a → d ≡ f b → Before c d (map f l) → Before a b l
before_map inj [] p q b = elim b [ ]
before_map {f = f} inj {a = a} (x ∷ l) p q (now e n) = now (inj a x (sym p ∙ e)) (λ t. n (q ∙ ap f t))
before_map {f = f} inj (x ∷ l) p q (later n h) = later (λ t. n (q ∙ ap f t)) (before_map inj l p q h)

-- L has what is in `In`, in the order `Less` of first appearance.
pub record Ranks {A : Type 0} (In : A → Type 0) (Less : A → A → Type 0) (L : List A) : Type 0 where
  pub sound : (a : A) → Mem a L → In a
  pub complete : (a : A) → In a → Mem a L
  pub sorted : (a b : A) → Before a b L → Mem b L → Less a b

module _ {A : Type 0} {Less : A → A → Type 0} where
  pub ranks_iff : {In In' : A → Type 0} {L : List A} → ((a : A) → In a → In' a) → ((a : A) → In' a → In a) → Ranks In Less L → Ranks In' Less L
  ranks_iff f g r = record { sound = λ a m. f a (r.sound a m); complete = λ a m. r.complete a (g a m); sorted = r.sorted }

  pub ranks_one : (a : A) → Ranks (λ b. b ≡ a) Less (a ∷ [])
  ranks_one a = record { sound = λ b m. Memᴰ.eq_of_singleton m; complete = λ b e. head e; sorted = λ b c h m. absurd (go h (Memᴰ.eq_of_singleton m)) }
    where
      go : {b c : A} → Before b c (a ∷ []) → c ≡ a → ⊥
      go (now e n) f = n f
      go (later n h) f = n f

  pub ranks_when : {P : Type 0} {In : A → Type 0} {L : List A} (b : Bool) → (T b → P) → (P → T b) → (P → Ranks In Less L) → Ranks (λ a. P × In a) Less (when b L)
  ranks_when true f g r = ranks_iff (λ a m. (f tt, m)) (λ a m. m.1) (r (f tt))
  ranks_when false f g r = record { sound = λ a m. absurd (Memᴰ.not-nil m); complete = λ a m. absurd (g m.0); sorted = λ a b h m. absurd (Memᴰ.not-nil m) }

  pub ranks_append : {In In' : A → Type 0} {L M : List A} → Ranks In Less L → Ranks In' Less M → ((a b : A) → In a → In' b → Less a b) → Ranks (λ a. In a ⊎ In' a) Less (L ++ M)
  ranks_append {L = L} {M = M} r s cross =
      record {
        sound = λ a m. either (λ t. inl (r.sound a t)) (λ t. inr (s.sound a t)) (Memᴰ.append_cases L m);
        complete = λ a. either (λ t. Memᴰ.append_left M (r.complete a t)) (λ t. Memᴰ.append_right L (s.complete a t));
        sorted = λ a b h m.
            either
            (λ t. either (λ n. r.sorted a b t n) (λ n. cross a b (r.sound a (before_in t)) (s.sound b n)) (Memᴰ.append_cases L m))
            (λ t. either (λ n. absurd (t.0 n)) (λ n. s.sorted a b t.1 n) (Memᴰ.append_cases L m))
            (before_append L h);
      }

module _ {A B : Type 0} {In : A → Type 0} {Less : A → A → Type 0} {Less' : B → B → Type 0} {L : List A} (f : A → B) where
  pub ranks_map : ((a b : A) → f a ≡ f b → a ≡ b) → ((a b : A) → Less a b → Less' (f a) (f b)) → Ranks In Less L → Ranks (λ b. (a : A) × In a × (b ≡ f a)) Less' (map f L)
  ranks_map inj up r =
      record {
        sound = λ b m. let (a, n, e) = Memᴰ.of_map f L m in (a, r.sound a n, sym e);
        complete = λ b (a, m, e). Memᴰ.cast e (Memᴰ.map f (r.complete a m));
        sorted = λ b c h m.
            let (a, n, e) = Memᴰ.of_map f L (before_in h) in
            let (a', n', e') = Memᴰ.of_map f L m in
            subst₂ Less' e e' (up a a' (r.sorted a a' (before_map inj L (sym e) (sym e') h) n'));
      }

-- The list of all g b c, with b from a list and c from the list of b.
abbrev pub each : {A B C : Type 0} → (B → C → A) → (B → List C) → List B → List A
each g h [] = []
each g h (b ∷ l) = map (g b) (h b) ++ each g h l

module _ {A B C : Type 0} (g : B → C → A) (h : B → List C) where
  each_of : {b : B} {c : C} {l : List B} → Mem b l → Mem c (h b) → Mem (g b c) (each g h l)
  each_of {c = c} (head {x = d} {xs = l} e) m = subst (λ b. Mem (g b c) (each g h (d ∷ l))) (sym e) (Memᴰ.append_left (each g h l) (Memᴰ.map (g d) (subst (λ b. Mem c (h b)) e m)))
  each_of (tail {x = d} {xs = l} t) m = Memᴰ.append_right (map (g d) (h d)) (each_of t m)

  each_found : {a : A} (l : List B) → Mem a (each g h l) → (b : B) × (c : C) × Mem b l × Mem c (h b) × (a ≡ g b c)
  each_found [] m = absurd (Memᴰ.not-nil m)
  each_found (d ∷ l) m =
      either
      (λ t. let (c, n, e) = Memᴰ.of_map (g d) (h d) t in (d, c, head refl, n, sym e))
      (λ t. let (b, c, m, n, e) = each_found l t in (b, c, tail m, n, e))
      (Memᴰ.append_cases (map (g d) (h d)) m)

  module _ (dec : Discrete B) (inj : (b b' : B) (c c' : C) → g b c ≡ g b' c' → (b ≡ b') × (c ≡ c')) where
    each_before : {b b' : B} {c c' : C} (l : List B) → Mem c' (h b') → Before (g b c) (g b' c') (each g h l) → Before b b' l ⊎ ((b ≡ b') × Before c c' (h b'))
    each_before [] m t = elim t [ ]
    each_before {b} {b'} {c} {c'} (d ∷ l) m t = either here (there (each_before l m)) (before_append (map (g d) (h d)) t)
      where
        here : Before (g b c) (g b' c') (map (g d) (h d)) → Before b b' (d ∷ l) ⊎ ((b ≡ b') × Before c c' (h b'))
        here t =
            let (x, m, e) = Memᴰ.of_map (g d) (h d) (before_in t) in
            let p : b ≡ d = sym (inj d b x c e).0 in
            elim (dec b' d) [
              | yes q ↦ inr (p ∙ sym q, subst (λ z. Before c c' (h z)) (sym q) (before_map (λ u v e. (inj d d u v e).1) (h d) (ap (λ z. g z c) p) (ap (λ z. g z c') q) t))
              | no q ↦ inl (now p q)
            ]

        there : (Before (g b c) (g b' c') (each g h l) → Before b b' l ⊎ ((b ≡ b') × Before c c' (h b'))) → (Mem (g b' c') (map (g d) (h d)) → ⊥) × Before (g b c) (g b' c') (each g h l)
            → Before b b' (d ∷ l) ⊎ ((b ≡ b') × Before c c' (h b'))
        there below t = either (λ u. inl (later (λ q. t.0 (subst (λ z. Mem (g b' c') (map (g z) (h z))) q (Memᴰ.map (g b') m))) u)) (λ u. inr u) (below t.1)

    -- In order of b, and then of c.
    pub ranks_each : {In : B → Type 0} {Less : B → B → Type 0} {In' : B → C → Type 0} {Less' : B → C → C → Type 0} {Less'' : A → A → Type 0} {L : List B}
        → ((b b' : B) (c c' : C) → Less b b' → Less'' (g b c) (g b' c')) → ((b : B) (c c' : C) → Less' b c c' → Less'' (g b c) (g b c'))
        → Ranks In Less L → ((b : B) → Mem b L → Ranks (In' b) (Less' b) (h b)) → Ranks (λ a. (b : B) × (c : C) × In b × In' b c × (a ≡ g b c)) Less'' (each g h L)
    ranks_each {Less'' = Less''} {L = L} up up' p q =
        record {
          sound = λ a m. let (b, c, n, k, e) = each_found L m in (b, c, p.sound b n, (q b n).sound c k, e);
          complete = λ a (b, c, m, n, e). let k = p.complete b m in Memᴰ.cast e (each_of k ((q b k).complete c n));
          sorted = λ a a' t m.
              let (b, c, n, k, e) = each_found L (before_in t) in
              let (b', c', n', k', e') = each_found L m in
              subst₂ Less'' (sym e) (sym e')
              (either (λ u. up b b' c c' (p.sorted b b' u n')) (λ (f, u). subst (λ z. Less'' (g z c) (g b' c')) (sym f) (up' b' c c' ((q b' n').sorted c c' u k')))
              (each_before L k' (subst₂ (λ x y. Before x y (each g h L)) e e' t)));
        }

module _ {A : Type 0} (ρ : A → ℕ) where
  -- The first way to an end is before all others to that end, and before all ways to the ends that come after it.
  pub record First (j : ℕ) (L : List A) (a : A) : Type 0 where
    pub is_in : Mem a L
    pub ends : ρ a ≡ j
    pub same : (b : A) → ρ b ≡ j → b ≢ a → Before a b L
    pub past : (b : A) → Before j (ρ b) (map ρ L) → Before a b L

  pub find : (j : ℕ) (L : List A) → Mem j (map ρ L) → (a : A) × First j L a
  find j [] m = absurd (Memᴰ.not-nil m)
  find j (c ∷ L) m = go (find j L) (ℕ_discrete (ρ c) j) (Memᴰ.cases_cons m)
    where
      after : {b : A} → j ≢ ρ c → Before j (ρ b) (ρ c ∷ map ρ L) → (b ≢ c) × Before j (ρ b) (map ρ L)
      after n (now e h) = absurd (n e)
      after n (later h t) = (λ q. h (ap ρ q), t)

      go : (Mem j (map ρ L) → (a : A) × First j L a) → Dec (ρ c ≡ j) → (j ≡ ρ c) ⊎ Mem j (map ρ L) → (a : A) × First j (c ∷ L) a
      go below (yes e) m = (c, record { is_in = head refl; ends = e; same = λ b q n. now refl n; past = λ b h. now refl (λ q. before_self (subst (λ k. Before k (ρ b) (ρ c ∷ map ρ L)) (sym e ∙ sym (ap ρ q)) h)) })
      go below (no n) m =
          let (a, f) = below (either (λ e. absurd (n (sym e))) (λ t. t) m) in (
            a,
            record {
              is_in = tail f.is_in;
              ends = f.ends;
              same = λ b q z. later (λ t. n (sym (ap ρ t) ∙ q)) (f.same b q z);
              past = λ b h. let t = after (λ e. n (sym e)) h in later t.0 (f.past b t.1);
            },
          )

  module _ {In : A → Type 0} {Less : A → A → Type 0} {L : List A} (dec : Discrete A) (r : Ranks In Less L) where
    least : {j : ℕ} {a : A} → First j L a → Least In ρ Less j a
    least {j} {a} f =
        record {
          way = r.sound a f.is_in;
          ends = f.ends;
          least = λ b i q. elim (dec b a) [ yes e ↦ inl e | no n ↦ inr (r.sorted a b (f.same b q n) (r.complete b i)) ];
        }

    -- The ends of ways in order are in the flattened order.
    pub flat : {j k : ℕ} → Before j k (map ρ L) → Mem k (map ρ L) → ByLeast In ρ Less j k
    flat {j} {k} h m =
        let (a, f) = find j L (before_in h) in
        let (b, g) = find k L m in
        by_least (least f) (least g) (r.sorted a b (f.past b (subst (λ c. Before j c (map ρ L)) (sym g.ends) h)) g.is_in)
