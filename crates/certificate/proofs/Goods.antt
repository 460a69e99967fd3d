-- The safe certificate of a good progress certificate is good, and of no higher view (01: Rank and safe block; Refusals, 9). Assumes nothing.
use mathlib.Core.Path.{◌≡◌, refl}
use mathlib.Core.Bool.{Bool, true, ◌&&◌}
use mathlib.Core.List.{List, [], ◌∷◌}
use Prim.Native.Nat.{ℕ, suc, ◌≤◌}
use native.Mathlib.Omega.{arith}
use borrow.Author.Tests.{ne_eqb, le-leb, leb-true}
use lib.Dec.{ltb, leb}
use lib.ListN.{length}
use Rattle.settings.specs.declared.Settings.{Settings}
use Rattle.settings.specs.Quorum.{replicas, timeout_quorum}
use Rattle.codec.specs.Names.{same_bytes}
use Rattle.wire.specs.declared.Timeout.{Timeout}
use Rattle.wire.specs.Content.{by_block, by_timeouts}
use Rattle.wire.specs.Fit.{All, TimeoutsProper, CertificateProper}
use Rattle.wire.proofs.Slots.{all_impl, all_both}
use Rattle.certificate.specs.declared.Certificate.{Certificate}
use Rattle.certificate.specs.Rank.{carried_certificate}
use Rattle.certificate.specs.Good.{all, signers_needed, is_good, timeout_good, progress_good}
use Rattle.certificate.specs.Safe.{safe_of_timeouts, safe_certificate}
use Rattle.certificate.specs.Order.{carried_in, Backed, built_of, Ascending}
use Rattle.certificate.proofs.Backing.{proper_ascending, backing-signers}
use Rattle.codec.proofs.Order.{and_true}
use Rattle.certificate.proofs.Chosen.{chosen_has}

pub all_true : {A : Type 0} (test : A → Bool) (l : List A) → all test l ≡ true → All (λ x. test x ≡ true) l
unfolding all All
all_true test [] e = tt
all_true test (x ∷ l) e = let r = and_true (test x) (all test l) e in (r.0, all_true test l r.1)

-- enough timeouts with ascending senders build a certificate with enough signers
pub built_good : (s : Settings) (l : List Timeout) (t : Timeout) → replicas s ≤ 64 → Ascending (replicas s) 0 l → Backed s l t → is_good s (built_of s l t) ≡ true
unfolding is_good signers_needed
built_good s l t w p b =
    rw (ne_eqb t.high.view.0 0 (omega (arith, b.voted)), backing-signers (replicas s) t.high.view.0 t.high.name l w p) (le-leb _ _ b.enough)

-- what a good timeout of view v says
abbrev Says : Settings → ℕ → Timeout → Type 0
Says s v t = (is_good s (carried_in t) ≡ true) × ((carried_in t).view.0 ≤ v) × (t.high.view.0 ≤ v)

timeout_says_lem : (s : Settings) (t : Timeout) → timeout_good s t ≡ true → Says s t.view.0 t
unfolding timeout_good carried_certificate
timeout_says_lem s t e =
    let p = and_true _ _ e in
    let q = and_true _ _ p.1 in
    (p.0, leb-true _ _ q.0, leb-true _ _ q.1)

of_view : (n v low : ℕ) (l : List Timeout) → TimeoutsProper n v low l → All (λ t. t.view.0 ≡ v) l
unfolding TimeoutsProper All
of_view n v low [] p = tt
of_view n v low (t ∷ l) p = (p.0, of_view n v (suc t.sender) l p.4)

abbrev pub GoodTo : Settings → ℕ → Certificate → Type 0
GoodTo s v k = (is_good s k ≡ true) × (k.view.0 ≤ v)

all_say : (s : Settings) (v low : ℕ) (l : List Timeout) → TimeoutsProper (replicas s) v low l → progress_good s (by_timeouts v l) ≡ true → All (Says s v) l
unfolding progress_good
all_say s v low l p e =
    let many = leb (timeout_quorum s) (length l) in
    let good = all (timeout_good s) l in
    let each = all_true (timeout_good s) l (and_true many good (and_true (ltb 0 v) (many && good) e).1).1 in
    all_impl _ _ l (λ t h. rw h.1 at (timeout_says_lem s t h.0)) (all_both _ _ l each (of_view (replicas s) v low l p))

pub timeouts_good_lem : (s : Settings) (v : ℕ) (l : List Timeout) → replicas s ≤ 64 → TimeoutsProper (replicas s) v 0 l → progress_good s (by_timeouts v l) ≡ true
    → GoodTo s v (safe_of_timeouts s l)
unfolding safe_of_timeouts is_good same_bytes
timeouts_good_lem s v [] w p e = (refl, omega arith)
timeouts_good_lem s v (t ∷ l) w p e =
    let says = all_say s v 0 (t ∷ l) p e in
    chosen_has (GoodTo s v) s t l
    (all_impl _ _ (t ∷ l) (λ u h. (h.0, h.1)) says)
    (all_impl _ _ (t ∷ l) (λ u h b. (built_good s (t ∷ l) u w (proper_ascending (replicas s) v 0 (t ∷ l) p) b, h.2)) says)

pub safe_good : (s : Settings) (k : Rattle.wire.specs.Content.Certificate) → replicas s ≤ 64 → CertificateProper (replicas s) k → progress_good s k ≡ true
    → is_good s (safe_certificate s k) ≡ true
unfolding CertificateProper progress_good safe_certificate
safe_good s (by_block v x g) w p e = e
safe_good s (by_timeouts v l) w p e = (timeouts_good_lem s v l w p e).0
