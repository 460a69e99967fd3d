-- The rules A, B and C at one view, as the code finds them; each premise is a test or what one callee ensures, in the order of the code. Assumes nothing.
use Prim.Native.Nat.{ℕ, suc, ◌+◌, ◌-◌, ◌≤◌, ◌<◌}
use native.Mathlib.Nat.{add-zero}
use native.Mathlib.Numerals.{add-one}
use native.Mathlib.Omega.{arith}
use mathlib.Core.Path.{◌≡◌, refl, sym, ap, ◌∙◌}
use mathlib.Core.Bool.{Bool, true, false, cond, ◌&&◌}
use mathlib.Core.List.{List, []}
use borrow.Author.Tests.{lt-ltb, le-ltb, le-leb, lt-leb, eq-eqb, ne_eqb}
use lib.Dec.{leb}
use lib.ListN.{length}
use Rattle.settings.specs.declared.Settings.{Settings}
use Rattle.settings.specs.Quorum.{last_view, replicas, block_quorum, timeout_quorum}
use Rattle.codec.specs.Bytes.{IsBytes, part, patch, le_nat, le_bytes}
use Rattle.codec.proofs.Le.{le_nat-le_bytes}
use Rattle.codec.proofs.Order.{less_irrefl}
use Rattle.wire.specs.Fields.{kind_of, sender_of, view_of}
use Rattle.wire.specs.Content.{certificate_of, by_block}
use Rattle.wire.specs.Encode.{header_bytes, timeouts_bytes, block_certificate_bytes}
use Rattle.wire.specs.Fit.{IsName, IsU16, IsU64}
use Rattle.certificate.specs.declared.Locks.{Locks}
use Rattle.certificate.specs.Rank.{block_certificate, outranks}
use Rattle.certificate.specs.Safe.{safe_certificate}
use Rattle.blocks.specs.declared.Block.{Block}
use Rattle.memory.specs.Layout.{entry_room, vote_row, timeout_row, settings_of, own_of}
use Rattle.certificate.specs.declared.Tally.{Tally}
use Rattle.std.proofs.Common.{Option, Some, None}
use Rattle.memory.specs.Decided.{Choice, no_choice, chosen, choice_of, next_decided}
use Rattle.counters.specs.declared.Counters.{Counters}
use Rattle.counters.specs.Counters.{locks_of, adopting, certificate_of as lock_of}
use Rattle.memory.specs.Kept.{kept_count, tally}
use Rattle.memory.specs.Formed.{formed}
use Rattle.protocol.specs.Work.{view as view_at, send_timeout}
use Rattle.protocol.specs.Refusals.{view_of_progress}
use Rattle.protocol.specs.Events.{progress}
use Rattle.protocol.specs.Rules.{rule_a, rule_b, rule_c, formed_block}
use Rattle.protocol.proofs.call.Certificates.{form_view, formed_form, block_kind, block_form, tally_u64}
use Rattle.protocol.proofs.loop.Formed.{formed_read, formed_fits, block_read}
use Rattle.act.specs.declared.Draft.{Draft}
use Rattle.act.specs.Draft.{work_of, Does, Ready}
use Rattle.act.specs.Progress.{IsProgress, certificate_room, InOutput}
use Rattle.act.proofs.Steps.{does_same, does_stay, ready_less, ready_facts}
use Rattle.act.proofs.Advancing.{in_output, out_does, below_does}
use Rattle.rules.specs.Phases.{votes_wanted, forms_block}

-- ---- rule A
module _ (d : Draft) (m o : List ℕ) (v : ℕ) (l : d.at ≤ length o) where
  pub a_below : v < d.counters.view.0 → Does (rule_a v) d m o d m o
  unfolding rule_a
  a_below h = does_stay (rule_a v) d m o l (λ s. rw (lt-leb _ _ h))

  pub a_timed : d.counters.view.0 ≤ v → v ≤ d.counters.timed.0 → Does (rule_a v) d m o d m o
  unfolding rule_a
  a_timed h t = does_stay (rule_a v) d m o l (λ s. rw (le-leb _ _ h, le-ltb _ _ t))

  module _ (h : d.counters.view.0 ≤ v) (t : d.counters.timed.0 < v) {s : Settings} {row n k : ℕ} (e : s ≡ settings_of m) (r : row ≡ timeout_row v) (q : n ≡ replicas s)
      (c : k ≡ kept_count m row n) where
    count_is : kept_count m (timeout_row v) (replicas (settings_of m)) ≡ k
    count_is = sym (c ∙ rw (r, q, e))

    pub a_few : k ≤ s.f → Does (rule_a v) d m o d m o
    unfolding rule_a
    a_few x = let y : k < suc (settings_of m).f = omega (arith, x, ap (λ (z : Settings). z.f) e) in does_stay (rule_a v) d m o l (λ s. rw (le-leb _ _ h, lt-ltb _ _ t, count_is, lt-leb _ _ y))

    pub a_sends : {d₁ : Draft} {m₁ o₁ : List ℕ} → s.f < k → Does (send_timeout v) d m o d₁ m₁ o₁ → Does (rule_a v) d m o d₁ m₁ o₁
    unfolding rule_a
    a_sends x a =
        let y : suc (settings_of m).f ≤ k = omega (arith, x, ap (λ (z : Settings). z.f) e) in
        does_same (send_timeout v) (rule_a v) (λ s. sym (rw (le-leb _ _ h, lt-ltb _ _ t, count_is, le-leb _ _ y))) a

-- ---- rule B
module _ (d : Draft) (m o : List ℕ) (v : ℕ) (l : d.at ≤ length o) where
  pub b_below : v < d.counters.view.0 → Does (rule_b v) d m o d m o
  unfolding rule_b
  b_below h = does_stay (rule_b v) d m o l (λ s. rw (lt-leb _ _ h))

  module _ (h : d.counters.view.0 ≤ v) {s : Settings} {row n k z : ℕ} (e : s ≡ settings_of m) (r : row ≡ timeout_row v) (q : n ≡ replicas s)
      (c : k ≡ kept_count m row n) (t : z ≡ timeout_quorum s) where
    kept_is : kept_count m (timeout_row v) (replicas (settings_of m)) ≡ k
    kept_is = sym (c ∙ rw (r, q, e))

    quorum_is : timeout_quorum (settings_of m) ≡ z
    quorum_is = sym (t ∙ ap (λ (x : Settings). timeout_quorum x) e)

    pub b_few : k < z → Does (rule_b v) d m o d m o
    unfolding rule_b
    b_few x =
        let y : leb (timeout_quorum (settings_of m)) (kept_count m (timeout_row v) (replicas (settings_of m))) ≡ false = rw (kept_is, quorum_is) (lt-leb _ _ x) in
        does_stay (rule_b v) d m o l (λ s. rw (le-leb _ _ h, y))

    pub b_forms : {d₁ : Draft} {m₁ o₁ : List ℕ} → z ≤ k → Does (progress (formed m v (replicas (settings_of m)) (own_of m))) d m o d₁ m₁ o₁ → Does (rule_b v) d m o d₁ m₁ o₁
    unfolding rule_b
    b_forms x a =
        let y : leb (timeout_quorum (settings_of m)) (kept_count m (timeout_row v) (replicas (settings_of m))) ≡ true = rw (kept_is, quorum_is) (le-leb _ _ x) in
        does_same (progress (formed m v (replicas (settings_of m)) (own_of m))) (rule_b v) (λ s. sym (rw (le-leb _ _ h, y))) a

-- ---- the certificate that B forms
module _ (d : Draft) (m o : List ℕ) (v : ℕ) (a : Ready d m o entry_room) (h : d.counters.view.0 ≤ v) (low : v < last_view) (b : IsBytes m) where
  abbrev size : ℕ
  size = replicas (settings_of m)

  abbrev cert : List ℕ
  cert = formed m v size (own_of m)

  member : own_of m < size
  member = (ready_facts d m o a).member

  few : size ≤ 32
  few = (ready_facts d m o a).few

  kind : kind_of cert ≡ 6
  unfolding formed timeouts_bytes header_bytes le_bytes part le_nat
  kind = refl

  sender : sender_of cert ≡ own_of m
  unfolding formed timeouts_bytes header_bytes le_bytes part
  sender = let e : part cert 6 2 ≡ le_bytes 2 (own_of m) = refl in ap le_nat e ∙ le_nat-le_bytes 2 (own_of m) (omega (arith, member, few))

  view : view_of cert ≡ v
  view = let W = work_of d m o [] in sym (form_view W cert) ∙ ap (view_of_progress) (formed_read m v size (own_of m) low)

  is_progress : IsProgress size cert
  is_progress = let f = formed_form m v size (own_of m) b a.long few member low in record { form = f.form; view = f.view }

  enough : Ready d m o (certificate_room cert)
  enough = let e : certificate_room cert ≡ length cert = rw kind (add-zero (length cert)) in ready_less d m o entry_room (certificate_room cert) (omega (arith, e, formed_fits m v size (own_of m) few a.long)) a

  module _ {s : Settings} {n me to : ℕ} {o₁ : List ℕ} (e : s ≡ settings_of m) (q : n ≡ replicas s) (j : me ≡ own_of m) (f : (to ≡ d.at + length (formed m v n me)) × (o₁ ≡ patch o d.at (formed m v n me))) where
    place : to - d.at ≡ length cert
    place = let x : length (formed m v n me) ≡ length cert = rw (q, e, j) in omega (arith, f.0, x)

    put : o₁ ≡ patch o d.at cert
    put = f.1 ∙ rw (q, e, j)

    pub formed_in_output : InOutput d m o₁ (to - d.at)
    formed_in_output = rw place (in_output d m o cert enough is_progress sender (omega (arith, view, h)) put)

    pub formed_does : {d₁ : Draft} {m₁ o₂ : List ℕ} → Does (progress (part o₁ d.at (to - d.at))) d m o₁ d₁ m₁ o₂ → Does (progress cert) d m o d₁ m₁ o₂
    formed_does x = out_does d m o cert enough is_progress sender (omega (arith, view, h)) put (rw place at x)

-- ---- the certificate that C forms
module _ (d : Draft) (m o : List ℕ) (v : ℕ) (x : List ℕ) (a : Ready d m o 104) (low : v < last_view) (hx : IsName x) where
  abbrev voters : ℕ
  voters = (tally m (vote_row v) x (replicas (settings_of m))).signers

  abbrev block_cert : List ℕ
  block_cert = block_certificate_bytes (own_of m) v x voters

  own_low : IsU16 (own_of m)
  own_low = let f = ready_facts d m o a in omega (arith, f.few, f.member)

  voters_low : IsU64 voters
  voters_low = tally_u64 m (vote_row v) x (replicas (settings_of m)) (ready_facts d m o a).few

  block_is : (kind_of block_cert ≡ 3) × (length block_cert ≡ 56)
  block_is = block_kind (own_of m) v x voters own_low low hx voters_low

  block_progress : IsProgress (replicas (settings_of m)) block_cert
  block_progress = let f = block_form (own_of m) v x voters own_low low hx voters_low (replicas (settings_of m)) in record { form = f.form; view = f.view }

  block_says : certificate_of block_cert ≡ by_block v x voters
  block_says = block_read (own_of m) v x voters own_low low hx voters_low

  block_view : view_of block_cert ≡ v
  block_view = let W = work_of d m o [] in sym (form_view W block_cert) ∙ ap (view_of_progress) block_says

  block_sender : sender_of block_cert ≡ own_of m
  unfolding block_certificate_bytes header_bytes le_bytes part
  block_sender = let e : part block_cert 6 2 ≡ le_bytes 2 (own_of m) = refl in ap le_nat e ∙ le_nat-le_bytes 2 (own_of m) own_low

  block_enough : Ready d m o (certificate_room block_cert)
  block_enough = let e : certificate_room block_cert ≡ length block_cert + 48 = rw block_is.0 in ready_less d m o 104 (certificate_room block_cert) (omega (arith, e, block_is.1)) a

  module _ {s : Settings} {n row : ℕ} {t : Tally} (e : s ≡ settings_of m) (q : n ≡ replicas s) (r : row ≡ vote_row v) (c : t ≡ tally m row x n) where
    voters_are : t.signers ≡ voters
    voters_are = ap (λ (z : Tally). z.signers) c ∙ rw (r, q, e)

    pub block_below : {k : Counters} → v < d.counters.view.0 → k ≡ adopting d.counters (block_certificate v x t.signers) → Does (forms_block v x) d m o (record { counters = k; at = d.at }) m o
    unfolding forms_block safe_certificate
    block_below h p =
        does_same (progress block_cert) (forms_block v x) (λ s. refl)
        (below_does d m o block_cert block_enough block_progress (sym block_view) h (p ∙ rw (voters_are, block_says)))

    module _ {me : ℕ} {o₁ : List ℕ} (h : d.counters.view.0 ≤ v) (j : me ≡ own_of m) (p : o₁ ≡ patch o d.at (block_certificate_bytes me v x t.signers)) where
      block_put : o₁ ≡ patch o d.at block_cert
      block_put = p ∙ rw (j, voters_are)

      pub block_in_output : InOutput d m o₁ 56
      block_in_output = rw block_is.1 at (in_output d m o block_cert block_enough block_progress block_sender (omega (arith, block_view, h)) block_put)

      pub block_does : {d₁ : Draft} {m₁ o₂ : List ℕ} → Does (progress (part o₁ d.at 56)) d m o₁ d₁ m₁ o₂ → Does (forms_block v x) d m o d₁ m₁ o₂
      unfolding forms_block
      block_does y =
          does_same (progress block_cert) (forms_block v x) (λ s. refl)
          (out_does d m o block_cert block_enough block_progress block_sender (omega (arith, block_view, h)) block_put (rw (← block_is.1) at y))

-- ---- rule C
module _ (d : Draft) (m o : List ℕ) (v : ℕ) (l : d.at ≤ length o) {found : Option (List ℕ)} (e : choice_of found ≡ next_decided m (votes_wanted m v) no_choice) where
  pub c_none : found ≡ None → Does (rule_c v) d m o d m o
  unfolding rule_c
  c_none h = let is = sym e ∙ ap choice_of h in does_stay (rule_c v) d m o l (λ s. rw is)

  module _ {x : List ℕ} (h : found ≡ Some x) {k : Locks} {t : Bool} (p : k ≡ locks_of d.counters) (q : t ≡ outranks (block_certificate v x 0) k.lock) where
    is : next_decided m (votes_wanted m v) no_choice ≡ chosen x
    is = sym e ∙ ap choice_of h

    outranks_is : outranks (block_certificate v x 0) (locks_of d.counters).lock ≡ t
    outranks_is = sym (q ∙ rw p)

    pub c_lower : t ≡ false → Does (rule_c v) d m o d m o
    unfolding rule_c
    c_lower f = does_stay (rule_c v) d m o l (λ s. rw (is, outranks_is, f))

    pub c_forms : {d₁ : Draft} {m₁ o₁ : List ℕ} → t ≡ true → Does (forms_block v x) d m o d₁ m₁ o₁ → Does (rule_c v) d m o d₁ m₁ o₁
    unfolding rule_c forms_block
    c_forms f a = does_same (forms_block v x) (rule_c v) (λ s. sym (rw (is, outranks_is, f))) a

-- below the lock's view
pub lower_view : (v : ℕ) (x : List ℕ) (c : Counters) → v < c.lock.view.0 → outranks (block_certificate v x 0) (locks_of c).lock ≡ false
unfolding outranks locks_of lock_of
lower_view v x c h = rw (ne_eqb v c.lock.view.0 (λ e. absurd (omega (arith, h, e))), le-ltb c.lock.view.0 v (omega (arith, h))) refl

-- at the lock's view, of the lock's own name
pub same_name : (v : ℕ) (c : Counters) → v ≡ c.lock.view.0 → outranks (block_certificate v c.lock.name 0) (locks_of c).lock ≡ false
unfolding outranks locks_of lock_of
same_name v c e = rw (eq-eqb v c.lock.view.0 e, less_irrefl c.lock.name) refl

pub c_below : (d : Draft) (m o : List ℕ) (v : ℕ) → d.at ≤ length o → v < d.counters.lock.view.0 → Does (rule_c v) d m o d m o
unfolding rule_c
c_below d m o v l h = does_stay (rule_c v) d m o l (λ s. rw (lower_view v (next_decided m (votes_wanted m v) no_choice).name d.counters h) (go (next_decided m (votes_wanted m v) no_choice).some s))
  where
    go : (t : Bool) (s : List Block) → cond (t && false) (progress (formed_block v (work_of d m o s) (next_decided m (votes_wanted m v) no_choice).name) (work_of d m o s)) (work_of d m o s) ≡ work_of d m o s
    go true s = refl
    go false s = refl

pub voted_is : (m : List ℕ) (v : ℕ) {s : Settings} {n z : ℕ} {x : Choice} → s ≡ settings_of m → n ≡ replicas s → z ≡ block_quorum s
    → x ≡ next_decided m (record { view = view_at v; n = n; votes = z; commits = n + 1 }) no_choice → x ≡ next_decided m (votes_wanted m v) no_choice
voted_is m v {n = n} {z = z} e q b x = x ∙ ap (λ (k : ℕ). next_decided m (record { view = view_at v; n = n; votes = z; commits = k }) no_choice) (add-one n) ∙ rw (q, b, e)

-- a quorum is never empty
pub some_quorum : (s : Settings) {z : ℕ} → z ≡ block_quorum s → 1 ≤ z
some_quorum s e = omega (arith, e)
