-- One chain: of two direct releases one extends the other. From `Lawful` alone (specs/Cluster.antt), for every f, c and k. Assumes nothing.
use mathlib.Core.Bool.{Bool, true}
use mathlib.Core.Logic.{◌⊎◌, inl, inr, ⊎_elim}
use mathlib.Core.Path.{◌≡◌, refl, sym}
use Prim.Native.Nat.{ℕ, zero, suc, ◌+◌, ◌≤◌, ◌<◌}
use native.Mathlib.Nat.{eq-or-lt_of_le}
use native.Mathlib.Omega.{arith}
use lib.Dec.{T}
use mir.Facts.{and_yes}
use Rattle.settings.specs.Quorum.{weak_quorum}
use Rattle.settings.proofs.Quorums.{block_block, block_le_fast, fast_timeout, slow_timeout, slow_honest}
use Rattle.certificate.specs.Good.{signers_needed}
use Rattle.safety.specs.Count.{count, ◌∩◌}
use Rattle.safety.specs.Rank.{Cert, ◌⊑◌, block_of}
use Rattle.safety.specs.Cluster.{Cluster, Extends, same, above, size, Truly, Signed, Good, TimeoutCert, Progress, VoteWhy, Lawful, Fast, Slow, Direct}
use Rattle.safety.proofs.Count.{le_or_lt, overlap, find}
use Rattle.safety.proofs.Rank.{⊑_trans, needed_honest, needed_block, needed_fast}

module _ {Name : Type 0} (R : Cluster Name) (L : Lawful R) where
  -- An honest replica in a set.
  pub record Witness (B : ℕ → Bool) : Type 0 where
    pub at : ℕ
    pub below : at < size R
    pub honest : T (R.honest at)
    pub inside : T (B at)

  -- all but f of a set are honest, so a set of more than f has an honest replica
  pub honest_part : (B : ℕ → Bool) → count B (size R) ≤ R.set.f + count (R.honest ∩ B) (size R)
  honest_part B = omega (arith, overlap R.honest B (size R), L.enough_honest)

  pub some_honest : (B : ℕ → Bool) → R.set.f < count B (size R) → Witness B
  some_honest B h =
      let w = find (R.honest ∩ B) (size R) (omega (arith, honest_part B)) in
      let t = and_yes (R.honest w.at) (B w.at) w.passes in
      record { at = w.at; below = w.below; honest = t.0; inside = t.1 }

  -- QUORUMS: two sets of more than n + f together share an honest replica
  pub meet : (A B : ℕ → Bool) → size R + R.set.f < count A (size R) + count B (size R) → Witness (A ∩ B)
  meet A B h = some_honest (A ∩ B) (omega (arith, overlap A B (size R)))

  -- so they cannot have voted for two names in one view
  pub agree : (A B : ℕ → Bool) (v : ℕ) (x y : Name) → Truly R A (λ i. R.Voted i v x) → Truly R B (λ i. R.Voted i v y)
      → size R + R.set.f < count A (size R) + count B (size R) → x ≡ y
  agree A B v x y p q h =
      let w = meet A B h in
      let t = and_yes (A w.at) (B w.at) w.inside in
      L.vote_once w.at w.below w.honest v x y (p w.at w.below w.honest t.0) (q w.at w.below w.honest t.1)

  -- block certificates of a view are unique
  pub one_block : (a b : Cert Name) → Signed R a → Signed R b → a.block ≡ true → b.block ≡ true → a.view ≡ b.view → a.name ≡ b.name
  one_block a b p q s t e =
      agree p.signers q.signers b.view a.name b.name (rw e at p.truly) q.truly
      (omega (arith, block_block R.set, p.enough, q.enough, needed_block R.set a.block s, needed_block R.set b.block t))

  -- a directly released block has a block certificate of its view, and so an honest vote
  pub direct_signed : (v : ℕ) (x : Name) → Direct R v x → Signed R (block_of v x)
  unfolding signers_needed
  direct_signed v x (inl d) = record { signers = d.voters; enough = omega (arith, block_le_fast R.set, d.enough); truly = d.truly }
  direct_signed v x (inr d) =
      let w = some_honest d.committers (omega (arith, slow_honest R.set, d.enough)) in
      (L.commit_why w.at w.below w.honest v x (d.truly w.at w.below w.honest w.inside)).signed

  -- an honest signer, and why it voted
  signer : (c : Cert Name) → Signed R c → (i : ℕ) × VoteWhy R i c.view c.name
  signer c p =
      let w = some_honest p.signers (omega (arith, p.enough, needed_honest R.set c.block)) in
      (w.at, L.vote_why w.at w.below w.honest c.view c.name (p.truly w.at w.below w.honest w.inside))

  pub signed_pos : (c : Cert Name) → Signed R c → 0 < c.view
  signed_pos c p = omega (arith, (signer c p).1.before_is)

  -- ---- what a direct release of x in view v means for the progress certificates of view v and later
  module _ (v : ℕ) (x : Name) (d : Direct R v x) where
    -- the claim for view w
    abbrev SafeAt : ℕ → Type 0
    SafeAt w = (c : Cert Name) → Progress R w c → (v ≤ c.view) × Extends R.Parent x c.name

    -- the claim from v up to below w
    abbrev SafeBelow : ℕ → Type 0
    SafeBelow w = (u : ℕ) → v ≤ u → u < w → SafeAt u

    -- a vote above v is for a block that extends x, on a safe certificate of view v or later
    vote_above : (w : ℕ) → SafeBelow w → (i u : ℕ) (y : Name) → (why : VoteWhy R i u y) → v < u → u ≤ w
        → (v ≤ why.safe.view) × Extends R.Parent x y
    vote_above w ih i u y why l m =
        let h = ih why.before (omega (arith, why.before_is)) (omega (arith, why.before_is)) why.safe why.progress in
        (h.0, above why.parent h.1)

    cert_above : (w : ℕ) → SafeBelow w → (c : Cert Name) → Signed R c → v < c.view → c.view ≤ w → Extends R.Parent x c.name
    cert_above w ih c p l m = let s = signer c p in (vote_above w ih s.0 c.view c.name s.1 l m).1

    pos : 0 < v
    pos = signed_pos (block_of v x) (direct_signed v x d)

  -- ---- a timeout certificate of view w ≥ v: its safe certificate has a view from v on, and at v it is for x
  module _ (v : ℕ) (x : Name) (w : ℕ) (c : Cert Name) (tc : TimeoutCert R w c) (vw : v ≤ w) where
    -- slow: an honest committer is among the senders
    slow_over : Slow R v x → block_of v x ⊑ c
    slow_over d =
        let i = meet d.committers tc.sender (omega (arith, slow_timeout R.set, d.enough, tc.enough)) in
        let t = and_yes (d.committers i.at) (tc.sender i.at) i.inside in
        let did = d.truly i.at i.below i.honest t.0 in
        let said = tc.truly i.at i.below i.honest t.1 in
        ⊑_trans ((L.commit_why i.at i.below i.honest v x did).kept (tc.says i.at) said (omega (arith, tc.of_view i.at i.below t.1)))
        (tc.over_carried i.at i.below t.1)

    -- fast: were it below v, the common honest replicas' high votes would all be x in view v, and make a weak certificate
    fast_high : (d : Fast R v x) → SafeBelow v x (inl d) w → c.view < v → (i : ℕ) → i < size R → T ((R.honest ∩ (d.voters ∩ tc.sender)) i)
        → T (tc.sender i) × ((tc.says i).high_view ≡ v) × ((tc.says i).high_name ≡ x)
    fast_high d ih low i l t =
        let a = and_yes (R.honest i) ((d.voters ∩ tc.sender) i) t in
        let b = and_yes (d.voters i) (tc.sender i) a.1 in
        let did = d.truly i l a.0 b.0 in
        let said = tc.truly i l a.0 b.1 in
        let up : v ≤ (tc.says i).high_view = L.high_above i l a.0 (tc.says i) said v x did (omega (arith, tc.of_view i l b.1)) in
        let voted = L.high_voted i l a.0 (tc.says i) said (omega (arith, pos v x (inl d))) in
        let why = L.vote_why i l a.0 (tc.says i).high_view (tc.says i).high_name voted in
        let eq : (tc.says i).high_view ≡ v = ⊎_elim (λ e. sym e) (λ m. absurd (omega (
          arith,
          (vote_above v x (inl d) w ih i (tc.says i).high_view (tc.says i).high_name why m (tc.high_le i l b.1)).0,
          (why.kept (tc.says i) said (omega (arith, tc.of_view i l b.1, tc.high_le i l b.1))).view_le,
          (tc.over_carried i l b.1).view_le,
        ))) (eq-or-lt_of_le up) in
        (b.1, eq, L.vote_once i l a.0 v (tc.says i).high_name x (rw eq at voted) did)

    fast_over : (d : Fast R v x) → SafeBelow v x (inl d) w → v ≤ c.view
    fast_over d ih =
        let both = d.voters ∩ tc.sender in
        let enough : weak_quorum R.set ≤ count (R.honest ∩ both) (size R) =
        omega (arith, fast_timeout R.set, d.enough, tc.enough, overlap d.voters tc.sender (size R), honest_part both) in
        ⊎_elim (λ p. p) (λ low. omega (arith, tc.over_built (R.honest ∩ both) v x (fast_high d ih low) enough)) (le_or_lt v c.view)

    -- at view v: for x
    at_view : Direct R v x → Signed R c → c.view ≡ v → c.name ≡ x
    at_view (inl d) p e = agree p.signers d.voters v c.name x (rw e at p.truly) d.truly
        (omega (arith, p.enough, d.enough, needed_fast R.set c.block))
    at_view (inr d) p e = one_block c (block_of v x) p (direct_signed v x (inr d)) ((slow_over d).block_kept (sym e) refl) refl e

  -- ---- the induction
  module _ (v : ℕ) (x : Name) (d : Direct R v x) where
    to_x : (y : Name) → y ≡ x → Extends R.Parent x y
    to_x y e = rw e same

    -- a signed certificate of view v or later: at v it is for x, and above it the induction speaks
    signed_safe : (w : ℕ) → SafeBelow v x d w → (c : Cert Name) → Good R c → v ≤ c.view → c.view ≤ w
        → (Signed R c → c.view ≡ v → c.name ≡ x) → Extends R.Parent x c.name
    signed_safe w ih c (inl z) l m at = absurd (omega (arith, pos v x d))
    signed_safe w ih c (inr p) l m at = ⊎_elim (λ e. to_x c.name (at p (sym e))) (λ h. cert_above v x d w ih c p h m) (eq-or-lt_of_le l)

    step : (w : ℕ) → v ≤ w → SafeBelow v x d w → SafeAt v x d w
    step w l ih c (inl b) =
        let lv : v ≤ c.view = omega (arith, b.0) in
        (lv, signed_safe w ih c b.2 lv (omega (arith, b.0)) (λ p e. one_block c (block_of v x) p (direct_signed v x d) b.1 refl e))
    step w l ih c (inr tc) =
        let over : (d' : Direct R v x) → SafeBelow v x d' w → v ≤ c.view =
        λ d'. elim d' [ inl p ↦ λ h. fast_over v x w c tc l p h | inr q ↦ λ h. (slow_over v x w c tc l q).view_le ] in
        let lv : v ≤ c.view = over d ih in
        (lv, signed_safe w ih c tc.safe_good lv tc.safe_le (λ p e. at_view v x w c tc l d p e))

    below_all : (b : ℕ) → SafeBelow v x d b
    below_all zero u l m = absurd (omega arith)
    below_all (suc b) u l m = step u l (λ t p q. below_all b t p (omega arith))

    -- THE SAFE BLOCK: every good progress certificate of view v or later leads to a block that extends x
    pub safe_extends : (w : ℕ) → v ≤ w → SafeAt v x d w
    safe_extends w l = step w l (below_all w)

  -- a direct release in a later view, or in the same
  pub later_extends : (v w : ℕ) (x y : Name) → Direct R v x → Direct R w y → v ≤ w → Extends R.Parent x y
  later_extends v w x y d e l = ⊎_elim
      (λ q. to_x v x d y (one_block (block_of w y) (block_of v x) (direct_signed w y e) (direct_signed v x d) refl refl (sym q)))
      (λ m. cert_above v x d w (below_all v x d w) (block_of w y) (direct_signed w y e) m (omega arith))
      (eq-or-lt_of_le l)

  -- ONE CHAIN
  pub one_extends_other : (v w : ℕ) (x y : Name) → Direct R v x → Direct R w y → Extends R.Parent x y ⊎ Extends R.Parent y x
  one_extends_other v w x y d e = ⊎_elim (λ l. inl (later_extends v w x y d e l)) (λ l. inr (later_extends w v y x e d (omega arith))) (le_or_lt v w)
