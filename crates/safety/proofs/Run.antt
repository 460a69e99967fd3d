-- The one induction over a run (`by_replica`): what each replica keeps by its own calls holds at the end; and all rows lie along one chain, for any step
-- machine whose calls keep what `Keeps` asks (`row_linked`, `one_chain`). Assumes nothing.
use mathlib.Core.Bool.{Bool, true, false, cond}
use mathlib.Core.List.{List, [], ◌∷◌, ◌++◌, append-nil}
use mathlib.Core.Logic.{◌⊎◌, inl, inr, ⊎_elim}
use mathlib.Core.Path.{◌≡◌, refl, ap, subst}
use Prim.Native.Nat.{ℕ, ◌≤◌}
use native.Mathlib.Omega.{arith}
use lib.Dec.{T, eqb, eqb→eq, eqb_refl}
use lib.ListN.{length, length-map}
use Rattle.settings.specs.declared.Settings.{Settings}
use Rattle.wire.proofs.Slots.{all_impl}
use Rattle.safety.specs.Lists.{In}
use Rattle.safety.specs.Cluster.{Lawful, Cluster, EachHonest, EnoughHonest, HighVoted}
use Rattle.safety.specs.Rows.{Begins, OneParent, firsts, Linked}
use Rattle.safety.specs.Run.{AllAllowed, Machine, Log, tag, own, after, end, log, placements, Earlier, StepKeeps, Read, Did, cluster, row, AtEnd, Keeps}
use Rattle.safety.proofs.Lists.{in_left, in_right}
use Rattle.safety.proofs.Rows.{begins_equal, shorter_begins, number_begins, released_linked}
use Rattle.safety.proofs.Trace.{high_votes, lawful}

module _ (M : Machine) where
  own_append : (i : ℕ) (l m : Log M) → own M i (l ++ m) ≡ own M i l ++ own M i m
  own_append i [] m = refl
  own_append i (e ∷ l) m = go (eqb e.0 i) (own_append i l m)
    where
      go : (b : Bool) → own M i (l ++ m) ≡ own M i l ++ own M i m → cond b (e.1 ∷ own M i (l ++ m)) (own M i (l ++ m)) ≡ cond b (e.1 ∷ own M i l) (own M i l) ++ own M i m
      go true h = ap (λ (k : List M.Item). e.1 ∷ k) h
      go false h = h

  own-tag : (i j : ℕ) (l : List M.Item) (b : Bool) → eqb i j ≡ b → own M j (tag M i l) ≡ cond b l []
  own-tag i j [] true e = refl
  own-tag i j [] false e = refl
  own-tag i j (q ∷ l) true e = rw e (ap (λ (k : List M.Item). q ∷ k) (own-tag i j l true e))
  own-tag i j (q ∷ l) false e = rw e (own-tag i j l false e)

  pub in_tag : (i : ℕ) (q : M.Item) (l : List M.Item) → In q l → In (i, q) (tag M i l)
  in_tag i q [] p = absurd p
  in_tag i q (a ∷ l) p = ⊎_elim (λ e. inl (ap (λ (k : M.Item). (i, k)) e)) (λ h. inr (in_tag i q l h)) p

  pub in_own : (i : ℕ) (q : M.Item) (L : Log M) → In (i, q) L → In q (own M i L)
  in_own i q [] p = absurd p
  in_own i q (e ∷ L) p = go (eqb e.0 i) refl p (in_own i q L)
    where
      go : (b : Bool) → eqb e.0 i ≡ b → ((i, q) ≡ e) ⊎ In (i, q) L → (In (i, q) L → In q (own M i L)) → In q (cond b (e.1 ∷ own M i L) (own M i L))
      go true h (inl d) rest = inl (ap (λ (a : ℕ × M.Item). a.1) d)
      go true h (inr d) rest = inr (rest d)
      go false h (inl d) rest = absurd (subst T h (subst (λ (k : ℕ). T (eqb k i)) (ap (λ (a : ℕ × M.Item). a.0) d) (eqb_refl i)))
      go false h (inr d) rest = rest d

  -- what is made stays made
  pub in_log : (a : ℕ × M.Item) (σ : ℕ → M.State) (L : Log M) (r : List (ℕ × M.Call)) → In a L → In a (log M σ L r)
  in_log a σ L [] p = p
  in_log a σ L (e ∷ r) p = in_log a (after M σ e.0 e.1) (L ++ tag M e.0 (M.makes (σ e.0) e.1)) r (in_left a L (tag M e.0 (M.makes (σ e.0) e.1)) p)

module _ (M : Machine) (honest : ℕ → Bool) where
  -- ---- THE INDUCTION over a run
  module _ (F : Log M) (B : List M.Placement) (P : ℕ → List M.Item → M.State → Type 0) where
    pub by_replica : StepKeeps M honest F B P → (r : List (ℕ × M.Call)) (σ : ℕ → M.State) (L : Log M) → log M σ L r ≡ F → ((b : M.Placement) → In b (placements M σ r) → In b B) → Earlier M honest σ L r → AllAllowed M σ r
        → ((i : ℕ) → T (honest i) → P i (own M i L) (σ i)) → (i : ℕ) → T (honest i) → P i (own M i F) (end M σ r i)
    by_replica step [] σ L e g h f p = λ i t. rw (← e) (p i t)
    by_replica step (a ∷ r) σ L e g h f p =
        by_replica step r (after M σ a.0 a.1) (L ++ new) e (λ b q. g b (in_right b (M.gives (σ a.0) a.1) (placements M (after M σ a.0 a.1) r) q)) h.1 f.1
        (λ j t. go j t (eqb a.0 j) refl)
      where
        new : Log M
        new = tag M a.0 (M.makes (σ a.0) a.1)

        into : (x : ℕ × M.Item) → In x (L ++ new) → In x F
        into x q = rw (← e) (in_log M x (after M σ a.0 a.1) (L ++ new) r q)

        mine : T (honest a.0) → P a.0 (own M a.0 L ++ M.makes (σ a.0) a.1) (M.next (σ a.0) a.1)
        mine t = step a.0 t (own M a.0 L) (σ a.0) a.1 f.0 (p a.0 t)
            (λ ok. all_impl _ _ (M.says (σ a.0) a.1) (λ x k q. into x (in_left x L new (k q))) (h.0 ok))
            (λ q k. into (a.0, q) (in_right (a.0, q) L new (in_tag M a.0 q (M.makes (σ a.0) a.1) k)))
            (λ b k. g b (in_left b (M.gives (σ a.0) a.1) (placements M (after M σ a.0 a.1) r) k))

        go : (j : ℕ) → T (honest j) → (b : Bool) → eqb a.0 j ≡ b → P j (own M j (L ++ new)) (cond b (M.next (σ a.0) a.1) (σ j))
        go j t true q =
            let is : a.0 ≡ j = eqb→eq a.0 j (rw q tt) in
            rw (own_append M, own-tag M a.0 j (M.makes (σ a.0) a.1) true q, ← is) (mine (rw is t))
        go j t false q = rw (own_append M, own-tag M a.0 j (M.makes (σ a.0) a.1) false q, append-nil) (p j t)

module _ (M : Machine) (set : Settings) (honest : ℕ → Bool) {Name : Type 0} (reads : M.Item → Read Name) (child parent : M.Placement → Name)
    (σ : ℕ → M.State) (r : List (ℕ × M.Call)) where
  abbrev R : Cluster Name
  R = cluster M set honest reads child parent σ r

  abbrev row_of : ℕ → List (Name × ℕ)
  row_of i = row M σ r reads i

  -- what the premise gives of an honest sender or signer
  pub did : (i : ℕ) (q : M.Item) → In (i, q) (log M σ [] r) → Did M σ r reads i (reads q)
  did i q p = (q, in_own M i q (log M σ [] r) p, refl)

  module _ (genesis : Name) (E : Earlier M honest σ [] r) (A : AllAllowed M σ r) (K : Keeps M set honest reads child parent σ r genesis) where
    -- the two passes over the run
    pub honest_high : HighVoted R
    honest_high = high_votes R (λ n l h. K.own_end n l h (end M σ r n)
        (by_replica M honest (log M σ [] r) (placements M σ r) K.Own K.own_step r σ [] refl (λ b q. q) E A K.own_open n h))

    at_end : EachHonest R (AtEnd M set honest reads child parent σ r genesis)
    at_end n l h = K.backed_end n l h (end M σ r n)
        (by_replica M honest (log M σ [] r) (placements M σ r) K.Backed (K.backed_step honest_high) r σ [] refl (λ b q. q) E A K.backed_open n h)

    -- the run is lawful
    pub run_lawful : EnoughHonest R → Lawful R
    run_lawful many = lawful R (λ n l h. (at_end n l h).0) many (λ n l h. (at_end n l h).1)

    -- a row begins at genesis, with heights 1, 2, 3 and on
    pub row_linked : EachHonest R (λ i. Linked R.Parent 1 genesis (row_of i))
    row_linked i l h = let a = at_end i l h in rw a.3 (released_linked R genesis (firsts (row_of i)) a.2)

    -- ONE CHAIN: of any two honest replicas' rows the shorter is the beginning of the longer
    pub one_chain : EnoughHonest R → OneParent R.Parent genesis
        → EachHonest R (λ i. EachHonest R (λ j. length (row_of i) ≤ length (row_of j) → Begins (row_of i) (row_of j)))
    one_chain many one i li hi j lj hj short =
        let a = at_end i li hi in
        let b = at_end j lj hj in
        let L = run_lawful many in
        number_begins 1 (row_of i) (row_of j) a.3 b.3
        (shorter_begins R L genesis one (firsts (row_of i)) (firsts (row_of j)) a.2 b.2 (simp length-map short))

    -- and rows of one length are the same
    pub one_length : EnoughHonest R → OneParent R.Parent genesis
        → EachHonest R (λ i. EachHonest R (λ j. length (row_of i) ≡ length (row_of j) → row_of i ≡ row_of j))
    one_length many one i li hi j lj hj e = begins_equal (row_of i) (row_of j) (one_chain many one i li hi j lj hj (omega arith)) e
