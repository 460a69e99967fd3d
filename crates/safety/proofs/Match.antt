-- A replica whose records match a trace is traced: so `Traced` of a run needs two things that each call keeps, that the records made so far match a list of
-- acts, and that these are a trace. Assumes nothing.
use mathlib.Core.Bool.{Bool}
use mathlib.Core.List.{List, [], ◌∷◌, ◌++◌}
use mathlib.Core.Logic.{◌⊎◌, inl, inr, ⊎_elim}
use mathlib.Core.Path.{◌≡◌, refl, sym, ap, subst, ◌∙◌}
use Prim.Native.Nat.{ℕ}
use native.Mathlib.Omega.{arith}
use Rattle.settings.specs.declared.Settings.{Settings}
use Rattle.safety.specs.Lists.{In}
use Rattle.safety.specs.Rank.{Cert}
use Rattle.safety.specs.Cluster.{Timeout}
use Rattle.safety.specs.Trace.{Replica, Act, vote, commit, timeout, Votes, Commits, Timeouts, Trace, Traced}
use Rattle.safety.specs.Run.{Machine, Read, is_vote, is_commit, is_timeout, made, cluster}
use Rattle.safety.specs.Match.{shows, Silent, Matches, start, no_act, an_act}
use Rattle.safety.proofs.Lists.{in_left, in_right, in_append}

module _ {Item Name : Type 0} (reads : Item → Read Name) where
  -- one more act keeps the older ones
  vote_on : (b : Act Name) (a : List (Act Name)) (v : ℕ) (x : Name) (c : Cert Name) → Votes a v x c → Votes (b ∷ a) v x c
  vote_on (vote u y d) a v x c p = inr p
  vote_on (commit u y) a v x c p = p
  vote_on (timeout t) a v x c p = p

  commit_on : (b : Act Name) (a : List (Act Name)) (v : ℕ) (x : Name) → Commits a v x → Commits (b ∷ a) v x
  commit_on (vote u y d) a v x p = p
  commit_on (commit u y) a v x p = inr p
  commit_on (timeout t) a v x p = p

  timeout_on : (b : Act Name) (a : List (Act Name)) (t : Timeout Name) → Timeouts a t → Timeouts (b ∷ a) t
  timeout_on (vote u y d) a t p = p
  timeout_on (commit u y) a t p = p
  timeout_on (timeout t') a t p = inr p

  -- the record of the act b reads so
  new_vote : (b : Act Name) (a : List (Act Name)) (v : ℕ) (x : Name) → shows b ≡ is_vote v x → (c : Cert Name) × Votes (b ∷ a) v x c
  new_vote (vote u y d) a v x e = (d, inl (cc, cc, refl))
  new_vote (commit u y) a v x e = let z : ◌≡◌ {A = ℕ} 0 1 = cc in absurd (omega arith)
  new_vote (timeout t) a v x e = let z : ◌≡◌ {A = ℕ} 0 1 = cc in absurd (omega arith)

  new_commit : (b : Act Name) (a : List (Act Name)) (v : ℕ) (x : Name) → shows b ≡ is_commit v x → Commits (b ∷ a) v x
  new_commit (vote u y d) a v x e = let z : ◌≡◌ {A = ℕ} 0 1 = cc in absurd (omega arith)
  new_commit (commit u y) a v x e = inl (cc, cc)
  new_commit (timeout t) a v x e = let z : ◌≡◌ {A = ℕ} 0 1 = cc in absurd (omega arith)

  new_timeout : (b : Act Name) (a : List (Act Name)) (t : Timeout Name) → shows b ≡ is_timeout t → Timeouts (b ∷ a) t
  new_timeout (vote u y d) a t e = let z : ◌≡◌ {A = ℕ} 0 1 = cc in absurd (omega arith)
  new_timeout (commit u y) a t e = let z : ◌≡◌ {A = ℕ} 0 1 = cc in absurd (omega arith)
  new_timeout (timeout t') a t e = inl (cc)

  -- the record q is the last one
  last : (q r : Item) (l : List Item) → In q (l ++ (r ∷ [])) → In q l ⊎ (q ≡ r)
  last q r l p = ⊎_elim inl (λ h. ⊎_elim inr (λ z. absurd z) h) (in_append q l (r ∷ []) p)

  pub to_vote : (l : List Item) (a : List (Act Name)) → Matches reads l a → (q : Item) (v : ℕ) (x : Name) → In q l → reads q ≡ is_vote v x → (c : Cert Name) × Votes a v x c
  to_vote l a start q v x p e = absurd p
  to_vote l a (no_act {l = l'} r m s) q v x p e = ⊎_elim (λ h. to_vote l' a m q v x h e) (λ h. absurd (subst Silent (sym (ap reads h) ∙ e) s)) (last q r l' p)
  to_vote l a (an_act {l = l'} {a = a'} r b m s) q v x p e = ⊎_elim
      (λ h. let w = to_vote l' a' m q v x h e in (w.0, vote_on b a' v x w.0 w.1))
      (λ h. new_vote b a' v x (sym s ∙ sym (ap reads h) ∙ e))
      (last q r l' p)

  pub to_commit : (l : List Item) (a : List (Act Name)) → Matches reads l a → (q : Item) (v : ℕ) (x : Name) → In q l → reads q ≡ is_commit v x → Commits a v x
  to_commit l a start q v x p e = absurd p
  to_commit l a (no_act {l = l'} r m s) q v x p e = ⊎_elim (λ h. to_commit l' a m q v x h e) (λ h. absurd (subst Silent (sym (ap reads h) ∙ e) s)) (last q r l' p)
  to_commit l a (an_act {l = l'} {a = a'} r b m s) q v x p e = ⊎_elim
      (λ h. commit_on b a' v x (to_commit l' a' m q v x h e))
      (λ h. new_commit b a' v x (sym s ∙ sym (ap reads h) ∙ e))
      (last q r l' p)

  pub to_timeout : (l : List Item) (a : List (Act Name)) → Matches reads l a → (q : Item) (t : Timeout Name) → In q l → reads q ≡ is_timeout t → Timeouts a t
  to_timeout l a start q t p e = absurd p
  to_timeout l a (no_act {l = l'} r m s) q t p e = ⊎_elim (λ h. to_timeout l' a m q t h e) (λ h. absurd (subst Silent (sym (ap reads h) ∙ e) s)) (last q r l' p)
  to_timeout l a (an_act {l = l'} {a = a'} r b m s) q t p e = ⊎_elim
      (λ h. timeout_on b a' t (to_timeout l' a' m q t h e))
      (λ h. new_timeout b a' t (sym s ∙ sym (ap reads h) ∙ e))
      (last q r l' p)

  -- back: a vote's record was made
  older : (q r : Item) (l : List Item) (a : Read Name) → In q l → reads q ≡ a → (k : Item) × In k (l ++ (r ∷ [])) × (reads k ≡ a)
  older q r l a p e = (q, in_left q l (r ∷ []) p, e)

  pub from_vote : (l : List Item) (a : List (Act Name)) → Matches reads l a → (v : ℕ) (x : Name) (c : Cert Name) → Votes a v x c → (q : Item) × In q l × (reads q ≡ is_vote v x)
  from_vote l a start v x c p = absurd p
  from_vote l a (no_act {l = l'} r m s) v x c p = let w = from_vote l' a m v x c p in older w.0 r l' (is_vote v x) w.1 w.2
  from_vote l a (an_act {l = l'} {a = a'} r (vote u y d) m s) v x c (inl p) = (r, in_right r l' (r ∷ []) (inl refl), rw (p.0, p.1) s)
  from_vote l a (an_act {l = l'} {a = a'} r (vote u y d) m s) v x c (inr p) = let w = from_vote l' a' m v x c p in older w.0 r l' (is_vote v x) w.1 w.2
  from_vote l a (an_act {l = l'} {a = a'} r (commit u y) m s) v x c p = let w = from_vote l' a' m v x c p in older w.0 r l' (is_vote v x) w.1 w.2
  from_vote l a (an_act {l = l'} {a = a'} r (timeout t) m s) v x c p = let w = from_vote l' a' m v x c p in older w.0 r l' (is_vote v x) w.1 w.2

module _ (M : Machine) (set : Settings) (honest : ℕ → Bool) {Name : Type 0} (reads : M.Item → Read Name) (child parent : M.Placement → Name)
    (σ : ℕ → M.State) (r : List (ℕ × M.Call)) where
  unfoldable pub traced : (i : ℕ) (a : List (Act Name)) (s : Replica Name) → Matches reads (made M σ r i) a → Trace a s
      → Traced (cluster M set honest reads child parent σ r) i
  traced i a s m t = record {
    acts = a;
    replica = s;
    trace = t;
    voted = λ v x p. to_vote reads (made M σ r i) a m p.0 v x p.1 p.2;
    did_vote = λ v x c p. from_vote reads (made M σ r i) a m v x c p;
    committed = λ v x p. to_commit reads (made M σ r i) a m p.0 v x p.1 p.2;
    timed_out = λ t p. to_timeout reads (made M σ r i) a m p.0 t p.1 p.2;
  }
