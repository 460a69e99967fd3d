-- What accepted records say of honest replicas (`Says`), and what that makes of the certificates and timeouts in them: they are good in the run. Assumes nothing.
use Prim.Native.Nat.{ℕ, zero, suc, ◌^◌, ◌≤◌, ◌<◌}
use mathlib.Core.Bool.{Bool, true, false, cond, ◌&&◌}
use mathlib.Core.List.{List, [], ◌∷◌, map}
use mathlib.Core.Logic.{inl, ⊎_elim}
use mathlib.Core.Path.{◌≡◌, refl, sym, ap, subst, ◌∙◌}
use native.Mathlib.Omega.{arith}
use borrow.Author.Tests.{leb-true}
use lib.Dec.{T, leb, ltb}
use lib.ListN.{length}
use Rattle.settings.specs.declared.Settings.{Settings}
use Rattle.settings.specs.Quorum.{largest, last_view, timeout_quorum}
use Rattle.codec.proofs.Order.{and_true, which}
use Rattle.wire.specs.declared.Timeout.{Timeout}
use Rattle.wire.specs.Fields.{slots}
use Rattle.wire.specs.Encode.{vote_bytes, timeout_bytes, certificate_bytes, encode}
use Rattle.wire.specs.Content.{Certificate, by_block, by_timeouts, timeout_of, certificate_of, Content, vote, commit, certificate, timeout, proposal, block, release, content}
use Rattle.wire.specs.Fit.{IsName, IsU64, All, TimeoutFits, TimeoutProper, TimeoutsProper, CertificateFits, CertificateProper, Fits}
use Rattle.wire.proofs.Tables.{stands_encode}
use Rattle.wire.proofs.Contents.{certificate_back, timeout_stands, slots_stand}
use Rattle.wire.proofs.ReadBack.{read_written}
use Rattle.certificate.specs.Rank.{block_certificate, carried_certificate}
use Rattle.certificate.specs.Good.{timeout_good, all, progress_good}
use Rattle.certificate.specs.Safe.{signs, safe_certificate}
use Rattle.certificate.proofs.Goods.{all_true}
use Rattle.safety.specs.Cluster.{Good, HighVoted}
use Rattle.safety.specs.Certificates.{cert}
use Rattle.safety.specs.Certificates as Safety
use Rattle.safety.specs.Select.{Fine}
use Rattle.safety.proofs.Certificates.{held}
use Rattle.safety.proofs.Signers.{good, fine}
use Rattle.protocol.specs.Work.{Work}
use Rattle.protocol.specs.Refusals.{view_of_progress}
use Rattle.protocol.specs.OneChain.{votes_of, timeout_says, timeouts_say, certificate_says}
use Rattle.protocol.proofs.chain.Invariant.{Name, History, R, size}
use Rattle.protocol.proofs.call.Certificates.{fits_typed}
use Rattle.protocol.proofs.chain.Progress.{all_left, all_right, TakenAt}
use Rattle.protocol.proofs.chain.Formed.{timeouts_taken}

-- ---- what a record of replica j says that j did is in the history: its vote, commit or timeout
abbrev pub ActOf : History → ℕ → Content → Type 0
ActOf w j (vote k v x) = w.Voted j v x
ActOf w j (commit k v x) = w.Committed j v x
ActOf w j (certificate s k) = Unit {0}
ActOf w j (timeout t) = w.TimedOut j (Safety.content t)
ActOf w j (proposal s v x y h k) = Unit {0}
ActOf w j (block s x y h) = Unit {0}
ActOf w j (release s v x h) = Unit {0}

abbrev pub ActIn : History → ℕ → List ℕ → Type 0
ActIn w j r = ActOf w j (content r)

act_of : (w : History) (j : ℕ) (q : Content) → Fits q → ActIn w j (encode q) → ActOf w j q
act_of w j q f t = subst (ActOf w j) (read_written q f) t

-- what accepted records say of honest replicas is so
abbrev pub Says : History → List (ℕ × List ℕ) → Type 0
Says w l = All (λ (a : ℕ × List ℕ). T (w.honest a.0) → ActIn w a.0 a.1) l

abbrev Saying : History → ℕ × List ℕ → Type 0
Saying w a = T (w.honest a.0) → ActIn w a.0 a.1

vote_act : (w : History) (j v : ℕ) (x : Name) → j < largest → IsU64 v → IsName x → ActIn w j (vote_bytes 1 j v x) → w.Voted j v x
unfolding encode Fits
vote_act w j v x low hv name z = act_of w j (vote j v x) (omega (arith, low), hv, name) z

says_head : (w : History) (a : ℕ × List ℕ) (l : List (ℕ × List ℕ)) → Says w (a ∷ l) → Saying w a
unfolding All
says_head w a l s = s.0

says_tail : (w : History) (a : ℕ × List ℕ) (l : List (ℕ × List ℕ)) → Says w (a ∷ l) → Says w l
unfolding All
says_tail w a l s = s.1

-- each honest signer below k made its vote
votes_truly : (w : History) (g v : ℕ) (x : Name) → IsU64 v → IsName x → (k : ℕ) → k ≤ largest → Says w (votes_of k g v x)
    → (j : ℕ) → j < k → T (w.honest j) → T (signs g j) → w.Voted j v x
votes_truly w g v x hv name zero small s j low h t = absurd (omega (arith, low))
votes_truly w g v x hv name (suc k) small s j low h t = go (signs g k) refl s (votes_truly w g v x hv name k (omega arith))
  where
    go : (b : Bool) → signs g k ≡ b → Says w (cond b ((k, vote_bytes 1 k v x) ∷ votes_of k g v x) (votes_of k g v x))
        → (Says w (votes_of k g v x) → (j : ℕ) → j < k → T (w.honest j) → T (signs g j) → w.Voted j v x) → w.Voted j v x
    go true e s rest = ⊎_elim
        (λ l. rest (says_tail w (k, vote_bytes 1 k v x) (votes_of k g v x) s) j l h t)
        (⊎_elim
        (λ q. subst (λ (n : ℕ). w.Voted n v x) (sym q) (vote_act w k v x (omega (arith, small)) hv name (says_head w (k, vote_bytes 1 k v x) (votes_of k g v x) s (subst (λ (n : ℕ). T (w.honest n)) q h))))
        (λ l. absurd (omega (arith, l, low))))
        (which j k)
    go false e s rest = ⊎_elim
        (λ l. rest s j l h t)
        (⊎_elim (λ q. absurd (subst (λ (b : Bool). T b) e (subst (λ (n : ℕ). T (signs g n)) q t))) (λ l. absurd (omega (arith, l, low))))
        (which j k)

module _ (set : Settings) (w : History) (H : HighVoted (R set w)) (few : size set w ≤ largest) where
  -- ---- a block certificate that passes the tests
  module _ (j v : ℕ) (x : Name) (g : ℕ) (low : j < 2 ^ 16) (small : v < last_view) (f : CertificateFits (by_block v x g)) (p : CertificateProper (size set w) (by_block v x g))
      (e : progress_good set (by_block v x g) ≡ true) (s : Says w (votes_of (size set w) g v x)) where
    block_good : Good (R set w) (cert (block_certificate v x g))
    unfolding CertificateFits CertificateProper progress_good
    block_good = good (R set w) (block_certificate v x g) e p (λ k l h t. votes_truly w g v x f.0 f.1 (size set w) few s k l h t)

    pub block_accepted : (r : List ℕ) → r ≡ certificate_bytes j (by_block v x g) → TakenAt set w v r
    unfolding safe_certificate CertificateProper
    block_accepted r is =
        let back : certificate_of r ≡ by_block v x g = ap certificate_of is ∙ certificate_back j (by_block v x g) low f in
        record {
          taken = record {
            from = j;
            from_low = low;
            is = rw back is;
            fits = rw back f;
            proper = rw back p;
            typed = rw back (fits_typed set (by_block v x g) (omega (arith, few)) f);
            good = rw back block_good;
            signers = rw back p;
          };
          below = small;
          of_view = rw back refl;
          backed = rw back (inl (refl, refl, block_good));
          safe_le = rw back (omega arith);
        }

  -- ---- a timeout that passes the tests
  timeout_back : (t : Timeout) → TimeoutFits t → timeout_of (timeout_bytes t) ≡ t
  unfolding encode Fits
  timeout_back t f = timeout_stands (timeout_bytes t) t (stands_encode (timeout t) f)

  timeout_act : (j : ℕ) (t : Timeout) → TimeoutFits t → ActIn w j (timeout_bytes t) → w.TimedOut j (Safety.content t)
  unfolding encode Fits
  timeout_act j t f z = act_of w j (timeout t) f z

  pub timeout_fine : (v : ℕ) (t : Timeout) → t.view.0 ≡ v → TimeoutFits t → TimeoutProper (size set w) t → timeout_good set t ≡ true
      → Says w (timeout_says (size set w) (timeout_bytes t)) → Fine held (R set w) v t
  unfolding carried_certificate
  timeout_fine v t of f p e s =
      let b = timeout_back t f in
      let said : Says w ((t.sender, timeout_bytes t) ∷ votes_of (size set w) t.carried.signers t.carried.view.0 t.carried.name) = rw b at s in
      fine (R set w) v t e of p.signers
      (λ k l h z. votes_truly w t.carried.signers t.carried.view.0 t.carried.name f.carried_view f.carried_name (size set w) few
      (says_tail w (t.sender, timeout_bytes t) _ said) k l h z)
      (λ l h. timeout_act t.sender t f (says_head w (t.sender, timeout_bytes t) _ said h))

  -- ---- a timeout certificate that passes the tests
  all_fine : (v low : ℕ) (ts : List Timeout) → All TimeoutFits ts → TimeoutsProper (size set w) v low ts → All (λ t. timeout_good set t ≡ true) ts
      → Says w (timeouts_say (size set w) (map timeout_bytes ts)) → All (Fine held (R set w) v) ts
  unfolding All TimeoutsProper
  all_fine v low [] f p e s = tt
  all_fine v low (t ∷ ts) f p e s = (
    timeout_fine v t p.0 f.0 p.3 e.0 (all_left (Saying w) (timeout_says (size set w) (timeout_bytes t)) (timeouts_say (size set w) (map timeout_bytes ts)) s),
    all_fine v (suc t.sender) ts f.1 p.4 e.1 (all_right (Saying w) (timeout_says (size set w) (timeout_bytes t)) (timeouts_say (size set w) (map timeout_bytes ts)) s),
  )

  certificate_slots : (j v : ℕ) (ts : List Timeout) → j < 2 ^ 16 → CertificateFits (by_timeouts v ts) → slots (certificate_bytes j (by_timeouts v ts)) ≡ map timeout_bytes ts
  unfolding encode Fits CertificateFits
  certificate_slots j v ts low f = slots_stand (certificate_bytes j (by_timeouts v ts)) j v ts f.2 (stands_encode (certificate j (by_timeouts v ts)) (low, f))

  module _ (j v : ℕ) (ts : List Timeout) (low : j < 2 ^ 16) (small : v < last_view) (f : CertificateFits (by_timeouts v ts)) (p : CertificateProper (size set w) (by_timeouts v ts))
      (e : progress_good set (by_timeouts v ts) ≡ true) (s : Says w (timeouts_say (size set w) (slots (certificate_bytes j (by_timeouts v ts))))) where
    pub timeouts_accepted : (r : List ℕ) → r ≡ certificate_bytes j (by_timeouts v ts) → TakenAt set w v r
    unfolding CertificateFits CertificateProper progress_good
    timeouts_accepted r is =
        let many = leb (timeout_quorum set) (length ts) in
        let each = all (timeout_good set) ts in
        let both = and_true many each (and_true (ltb 0 v) (many && each) e).1 in
        let said : Says w (timeouts_say (size set w) (map timeout_bytes ts)) = rw (certificate_slots j v ts low f) at s in
        timeouts_taken set w H j v ts low few small
        (record { fits = f.2; proper = p; fine = all_fine v 0 ts f.2 p (all_true (timeout_good set) ts both.1) said })
        (leb-true (timeout_quorum set) (length ts) both.0) r is

  -- A PROGRESS CERTIFICATE that passes the tests
  pub certificate_accepted : (W : Work) (j : ℕ) (k : Certificate) → j < 2 ^ 16 → view_of_progress k < last_view → CertificateFits k → CertificateProper (size set w) k → progress_good set k ≡ true
      → (r : List ℕ) → r ≡ certificate_bytes j k → Says w (certificate_says (size set w) r k) → TakenAt set w (view_of_progress k) r
  certificate_accepted W j (by_block v x g) low small f p e r is s = block_accepted j v x g low small f p e s r is
  certificate_accepted W j (by_timeouts v ts) low small f p e r is s =
      timeouts_accepted j v ts low small f p e (subst (λ (b : List ℕ). Says w (timeouts_say (size set w) (slots b))) is s) r is
