-- A certificate at work, as the code does it; each premise is what one callee ensures, in the order of the calls. Assumes nothing.
use Prim.Native.Nat.{ℕ, suc, ◌+◌, ◌-◌, ◌≤◌, ◌<◌, ◌^◌}
use native.Mathlib.Numerals.{add-one}
use native.Mathlib.Omega.{arith}
use mathlib.Core.Path.{◌≡◌, refl, sym, ap, ◌∙◌}
use mathlib.Core.Bool.{Bool, true, false, cond}
use mathlib.Core.Logic.{inl, inr}
use mathlib.Core.List.{List, ◌++◌}
use borrow.Author.Tests.{ne_eqb, eqb-true, eqb-false, lt-ltb, le-ltb, le-leb, lt-leb}
use lib.Dec.{eqb, ltb, leb}
use lib.ListN.{length, take, drop, length-append, take-append-drop}
use lib.Seq.{length-take-le}
use Rattle.settings.specs.Quorum.{largest, replicas}
use Rattle.codec.specs.Bytes.{IsBytes, part, patch, le_nat, le_bytes}
use Rattle.codec.proofs.Laws.{length-part, length-patch, part_lent, part-drop, part_same, part_before, part_behind, patch-part, patch-patch}
use Rattle.codec.proofs.Le.{bytes_part, length-le_bytes, le_bytes-le_nat, le_nat-le_bytes}
use Rattle.wire.specs.Fields.{kind_of, sender_of, view_of, name_of, count_of}
use Rattle.wire.specs.declared.BlockCertificate.{BlockCertificate}
use Rattle.wire.specs.declared.TimeoutCertificate.{TimeoutCertificate}
use Rattle.wire.specs.declared.Progress.{Progress}
use Rattle.wire.specs.declared.Progress.TheVariants.{Block, Timeouts}
use Rattle.wire.specs.Content.{Certificate, certificate_of, by_block, by_timeouts, progress_at, progress_means, Within}
use Rattle.wire.proofs.Certificates.{progress_means_lem, Stands, within, block_kind}
use Rattle.wire.specs.Encode.{vote_bytes}
use Rattle.certificate.specs.Safe.{safe_certificate}
use Rattle.blocks.specs.declared.Block.{Block as Held}
use Rattle.memory.specs.Layout.{entry_room, settings_of, own_of, with_entry}
use Rattle.memory.specs.Window.{entered}
use Rattle.memory.proofs.Apart.{part_inner}
use Rattle.counters.specs.declared.Counters.{Counters}
use Rattle.counters.specs.Counters.{adopting, entering}
use Rattle.protocol.specs.Work.{Work, view, settings, n, own, view_now, timed, send, adopt, enter_by, send_commit, keep_commit}
use Rattle.protocol.specs.Refusals.{view_of_progress}
use Rattle.protocol.specs.Events.{with_sender, commit_after, progress}
use Rattle.protocol.proofs.call.Regular.{Regular, ProgressForm, form_room, send_regular, enter_regular}
use Rattle.protocol.specs.Refusals.{regular}
use Rattle.protocol.proofs.call.Certificates.{form_view, sender_form}
use Rattle.protocol.proofs.call.Rules.{adopts_regular}
use Rattle.protocol.proofs.call.Written.{Grows}
use Rattle.act.specs.declared.Draft.{Draft}
use Rattle.act.specs.Draft.{work_of, Does, Ready}
use Rattle.act.specs.Progress.{HasForm, IsProgress, certificate_room, advance, InOutput}
use Rattle.act.proofs.Steps.{empty_store, patch_inner, sent_at, sent_out, drop-patch, same_left, Longer, does_then, does_same, does_stay, does_over, ready_next, ready_facts, written_at}

-- ---- what the form says
pub form_stands : (n : ℕ) (r : List ℕ) → HasForm n r → Stands r 0
form_stands n r (inl (k, l)) = record { head = omega arith; block = λ _. omega arith; timeouts = λ e. absurd (e k) }
form_stands n r (inr (k, c, l)) = record { head = omega arith; block = λ e. absurd (omega (arith, k, e)); timeouts = λ _. omega arith }

pub progress_form : (n : ℕ) (r : List ℕ) → IsBytes r → IsProgress n r → ProgressForm n r
progress_form n r b p = record { bytes = b; form = p.form; view = p.view }

-- a block certificate and its commit, or a timeout certificate: no more than the room of an entry certificate
pub progress_room : (n : ℕ) (r : List ℕ) → n ≤ largest → IsProgress n r → certificate_room r ≤ entry_room
progress_room n r h p = by p.form
  where
    by : HasForm n r → certificate_room r ≤ entry_room
    by (inl (k, l)) = let e : certificate_room r ≡ length r + 48 = rw k in omega arith
    by (inr (k, c, l)) = let e : certificate_room r ≡ length r + 0 = rw k in omega arith

-- ---- the commit behind a certificate
pub commit_block : (r : List ℕ) (W : Work) → kind_of r ≡ 3 → commit_after (certificate_of r) W ≡ cond (ltb (timed W) (view_of r)) (send_commit (view_of r) (name_of r) W) W
unfolding certificate_of
commit_block r W e = rw e

pub commit_none : (r : List ℕ) (W : Work) → (kind_of r ≡ 3 → ⊥) → commit_after (certificate_of r) W ≡ W
unfolding certificate_of
commit_none r W e = rw (ne_eqb (kind_of r) 3 e)

pub commit_longer : (v : ℕ) (x : List ℕ) (W : Work) → Longer W (send_commit v x W)
unfolding send_commit keep_commit
commit_longer v x W = omega (arith, length-append W.out (vote_bytes 2 (own W) v x))

pub longer_if : (W A B : Work) (t : Bool) → Longer W A → Longer W B → Longer W (cond t A B)
longer_if W A B true a b = a
longer_if W A B false a b = b

commit_after_longer : (k : Certificate) (W : Work) → Longer W (commit_after k W)
commit_after_longer (by_block v x g) W = longer_if W _ _ (ltb (timed W) v) (commit_longer v x W) (omega arith)
commit_after_longer (by_timeouts v ts) W = omega arith

-- ---- a block certificate's commit, if its view isn't timed
module _ (d : Draft) (m o : List ℕ) (k : BlockCertificate) where
  pub commits : {x : List ℕ} {d₁ : Draft} {m₁ o₁ : List ℕ} → d.counters.timed.0 < k.view.0 → x ≡ part o (k.place + 16) 32 → Does (send_commit k.view.0 x) d m o d₁ m₁ o₁
      → Does (commit_after (progress_means o (Block k))) d m o d₁ m₁ o₁
  unfolding progress_means
  commits {x} h e c =
      does_same (send_commit k.view.0 x) (commit_after (progress_means o (Block k))) (λ s. rw (lt-ltb _ _ h, part-drop o k.place 16 32, ← e)) c

  pub commits_not : k.view.0 ≤ d.counters.timed.0 → d.at ≤ length o → Does (commit_after (progress_means o (Block k))) d m o d m o
  unfolding progress_means
  commits_not h l = does_stay (commit_after (progress_means o (Block k))) d m o l (λ s. rw (le-ltb _ _ h))

-- ---- the record in the output region
module _ (d : Draft) (m o : List ℕ) (size : ℕ) (i : InOutput d m o size) where
  abbrev rec : List ℕ
  rec = part o d.at size

  length-rec : length rec ≡ size
  length-rec = length-part o d.at size i.whole

  pub rec_long : 24 ≤ size
  rec_long = omega (arith, (form_stands _ rec i.progress.form).head, length-rec)

  -- a field of it
  pub field_at : (a k : ℕ) → a + k ≤ size → part rec a k ≡ part o (d.at + a) k
  field_at a k h = part_inner o d.at size a k h

  module _ {c c₂ : Counters} {v : ℕ} {m₁ m₂ : List ℕ} where
    pub advance_does : c ≡ adopting d.counters (safe_certificate (settings_of m) (certificate_of (take (d.at + size - d.at) (drop d.at o)))) → v ≡ le_nat (part o (d.at + 8) 8)
        → m₁ ≡ entered m c.view.0 (v + 1) → m₂ ≡ with_entry m₁ (take (d.at + size - d.at) (drop d.at o)) → c₂ ≡ entering c (view (v + 1))
        → Does (advance rec) d m o (record { counters = c₂; at = d.at + size }) m₂ o
    unfolding advance adopt enter_by
    advance_does p q e f t =
        let lent : take (d.at + size - d.at) (drop d.at o) ≡ rec = part_lent o d.at size in
        let h : d.at + length rec ≤ length o = omega (arith, length-rec, i.whole) in
        let p' : c ≡ adopting d.counters (safe_certificate (settings_of m) (certificate_of rec)) = p ∙ rw lent in
        let next : (s : List Held) → v + 1 ≡ suc (view_of_progress (certificate_of rec)) =
        λ s. add-one v ∙ ap suc (q ∙ ap le_nat (sym (field_at 8 8 (omega (arith, rec_long)))) ∙ sym (form_view (work_of d m o s) rec)) in
        record {
          leaves = λ s. same_left (record { counters = c₂; at = d.at + size }) m₂ o s (advance rec (work_of d m o s)) o
              (t ∙ rw (p', next s)) (ap (λ (j : ℕ). d.at + j) (sym length-rec) ∙ sent_at o d.at rec h)
              (f ∙ rw (lent, e, p', next s)) (sym (patch-part o d.at size i.whole) ∙ sent_out o d.at rec h) refl;
        }

  -- ---- what its parts ask
  pub lent_form : HasForm (replicas (settings_of m)) (take (d.at + size - d.at) (drop d.at o))
  lent_form = rw (part_lent o d.at size) i.progress.form

  pub lent_most : length (take (d.at + size - d.at) (drop d.at o)) ≤ entry_room
  lent_most = rw (part_lent o d.at size) (form_room (replicas (settings_of m)) rec (ready_facts d m o i.ready).few i.progress.form)

  -- the view of the record, as it is read
  pub view_read : {v : ℕ} → v ≡ le_nat (part o (d.at + 8) 8) → v ≡ view_of rec
  view_read q = q ∙ ap le_nat (sym (field_at 8 8 (omega (arith, rec_long))))

  -- the same bytes, with all that stands behind them
  abbrev there : List ℕ
  there = drop d.at o

  there_field : (a k : ℕ) → a + k ≤ size → part there a k ≡ part rec a k
  there_field a k h = part-drop o d.at a k ∙ sym (field_at a k h)

  there_kind : kind_of there ≡ kind_of rec
  there_kind = ap le_nat (there_field 4 2 (omega (arith, rec_long)))

  pub in_place : Stands o d.at
  in_place =
      let S = form_stands _ rec i.progress.form in
      let n : count_of there ≡ count_of rec = ap le_nat (there_field 16 2 (omega (arith, rec_long))) in
      record {
        head = omega (arith, rec_long, i.whole);
        block = λ e. omega (arith, S.block (sym there_kind ∙ e), length-rec, i.whole);
        timeouts = λ e. omega (arith, S.timeouts (λ k. e (there_kind ∙ k)), length-rec, i.whole, n);
      }

  -- to the commit it means what the record means
  commit_same : {p : Progress} (W : Work) → p ≡ progress_at o d.at → commit_after (progress_means o p) W ≡ commit_after (certificate_of rec) W
  commit_same {p} W q = rw (q, progress_means_lem o d.at) (go (eqb (kind_of rec) 3) refl)
    where
      go : (t : Bool) → eqb (kind_of rec) 3 ≡ t → commit_after (certificate_of there) W ≡ commit_after (certificate_of rec) W
      go true e =
          let k : kind_of rec ≡ 3 = eqb-true _ _ e in
          let l : 56 ≤ size = omega (arith, (form_stands _ rec i.progress.form).block k, length-rec) in
          commit_block there W (there_kind ∙ k) ∙ rw (there_field 8 8 (omega (arith, l)), there_field 16 32 (omega (arith, l))) (sym (commit_block rec W k))
      go false e =
          let k = eqb-false (kind_of rec) 3 e in
          commit_none there W (λ f. k (sym there_kind ∙ f)) ∙ sym (commit_none rec W k)

  -- ---- regular afterwards
  module _ (R : Regular (work_of d m o empty_store)) (b : IsBytes o) where
    pub rec_form : ProgressForm (replicas (settings_of m)) rec
    rec_form = progress_form _ rec (bytes_part o d.at size b) i.progress

    advance_regular : Regular (advance rec (work_of d m o empty_store))
    unfolding advance adopt
    advance_regular =
        let W = work_of d m o empty_store in
        let W₁ = adopt W (safe_certificate (settings W) (certificate_of rec)) in
        let R₁ : Regular W₁ = adopts_regular W rec rec_form.bytes rec_form.form R in
        (enter_regular (send W₁ rec) (suc (view_of_progress (certificate_of rec))) rec (omega arith) (omega (arith, form_view W rec, rec_form.view)) rec_form.bytes rec_form.form (send_regular W₁ rec R₁)).0

    advance_out : Grows size (work_of d m o empty_store) (advance rec (work_of d m o empty_store))
    unfolding advance adopt enter_by
    advance_out = omega (arith, length-append (take d.at o) rec, length-rec)

    -- room for a commit behind a block certificate
    commit_ready : {d₁ : Draft} {m₁ : List ℕ} → kind_of rec ≡ 3 → Does (advance rec) d m o d₁ m₁ o → Ready d₁ m₁ o 48
    commit_ready k a =
        let e : certificate_room rec ≡ length rec + 48 = rw k in
        ready_next (advance rec) size 48 a i.ready advance_regular advance_out (omega (arith, e, length-rec))

    -- ---- the whole of it
    sender_is : with_sender (own_of m) rec ≡ rec
    sender_is =
        let p = part rec 6 2 in
        let l : length p ≡ 2 = length-part rec 6 2 (omega (arith, rec_long, length-rec)) in
        let e : le_bytes 2 (own_of m) ≡ p =
        ap (λ (x : ℕ). le_bytes 2 x) (sym i.sender) ∙ ap (λ (k : ℕ). le_bytes k (le_nat p)) (sym l) ∙ le_bytes-le_nat p (bytes_part rec 6 2 rec_form.bytes) in
        ap (patch rec 6) e ∙ patch-part rec 6 2 (omega (arith, rec_long, length-rec))

    progress_is : (s : List Held) → progress rec (work_of d m o s) ≡ commit_after (certificate_of rec) (advance rec (work_of d m o s))
    unfolding progress advance
    progress_is s = rw (sender_is, form_view (work_of d m o s) rec, le-leb _ _ i.view)

    module _ {p : Progress} {d₁ : Draft} {m₁ : List ℕ} (q : p ≡ progress_at o d.at) (a : Does (advance rec) d m o d₁ m₁ o) where
      pub on_timeouts : {t : TimeoutCertificate} → p ≡ Timeouts t → Does (progress rec) d m o d₁ m₁ o
      unfolding progress_means
      on_timeouts e = does_same (advance rec) (progress rec) (λ s. sym (progress_is s ∙ sym (commit_same _ q) ∙ rw e)) a

      module _ {k : BlockCertificate} (e : p ≡ Block k) where
        pub block_ready : Ready d₁ m₁ o 48
        block_ready = commit_ready (sym there_kind ∙ block_kind o d.at q e) a

        pub block_within : Within o (Block k)
        block_within = rw e at (within o d.at in_place q)

        pub on_block_lem : {d₂ : Draft} {m₂ o₂ : List ℕ} → Does (commit_after (progress_means o (Block k))) d₁ m₁ o d₂ m₂ o₂ → Does (progress rec) d m o d₂ m₂ o₂
        on_block_lem c =
            let x = progress_means o (Block k) in
            does_same (λ W. commit_after x (advance rec W)) (progress rec) (λ s. sym (progress_is s ∙ sym (commit_same _ q) ∙ rw e))
            (does_then (advance rec) (commit_after x) a c (commit_after_longer x))

-- ---- a certificate that came in
module _ (j : ℕ) (r : List ℕ) (l : 8 ≤ length r) where
  abbrev sender : List ℕ
  sender = le_bytes 2 j

  sender_before : (a k : ℕ) → a + k ≤ 6 → part (with_sender j r) a k ≡ part r a k
  sender_before a k h = part_before r 6 sender a k h

  sender_behind : (a k : ℕ) → 8 ≤ a → part (with_sender j r) a k ≡ part r a k
  sender_behind a k h = part_behind r 6 sender a k (omega (arith, length-le_bytes 2 j))

  certificate_sender : certificate_of (with_sender j r) ≡ certificate_of r
  unfolding certificate_of
  certificate_sender =
      rw (
        sender_before 4 2 (omega arith),
        sender_behind 8 8 (omega arith),
        sender_behind 16 32 (omega arith),
        sender_behind 48 8 (omega arith),
        sender_behind 16 2 (omega arith),
        drop-patch r 6 sender 24 (omega (arith, length-le_bytes 2 j)) (omega (arith, length-le_bytes 2 j)),
      )

  sender_put : j < 2 ^ 16 → sender_of (with_sender j r) ≡ j
  sender_put h = ap le_nat (part_same r 6 sender 2 (length-le_bytes 2 j) (omega arith)) ∙ le_nat-le_bytes 2 j h

progress_sender : (W : Work) (r : List ℕ) → 8 ≤ length r → progress (with_sender (own W) r) W ≡ progress r W
unfolding progress
progress_sender W r l = rw (certificate_sender (own W) r l, patch-patch r 6 (le_bytes 2 (own W)) (le_bytes 2 (own W)) refl)

-- one that isn't below the current view is written
pub progress_long : (W : Work) (r : List ℕ) → view_now W ≤ view_of r → length W.out + length r ≤ length (progress r W).out
unfolding progress adopt enter_by
progress_long W r h =
    let k = certificate_of r in
    let s = with_sender (own W) r in
    let W₁ = adopt W (safe_certificate (settings W) k) in
    let W₃ = enter_by (send W₁ s) (suc (view_of_progress k)) s in
    let e : leb (view_now W) (view_of_progress k) ≡ true = rw (form_view W r) (le-leb _ _ h) in
    rw e (omega (arith, commit_after_longer k W₃, length-append W.out s, length-patch r 6 (le_bytes 2 (own W))))

pub progress_longer : (r : List ℕ) (W : Work) → Longer W (progress r W)
unfolding progress adopt enter_by
progress_longer r W =
    let k = certificate_of r in
    let s = with_sender (own W) r in
    let W₁ = adopt W (safe_certificate (settings W) k) in
    let W₃ = enter_by (send W₁ s) (suc (view_of_progress k)) s in
    longer_if W (commit_after k W₃) W₁ (leb (view_now W) (view_of_progress k)) (omega (arith, commit_after_longer k W₃, length-append W.out s)) (omega arith)

-- ---- a record with own as sender is put into the output region, behind what is written
module _ (d : Draft) (m o r : List ℕ) (a : Ready d m o (certificate_room r)) (p : IsProgress (replicas (settings_of m)) r) (s : sender_of r ≡ own_of m) (h : d.counters.view.0 ≤ view_of r)
    {o₁ : List ℕ} (q : o₁ ≡ patch o d.at r) where
  stands : part o₁ d.at (length r) ≡ r
  stands = rw q (part_same o d.at r (length r) refl (omega (arith, a.room)))

  pub in_output : InOutput d m o₁ (length r)
  unfolding regular
  in_output =
      let l : length o₁ ≡ length o = ap length q ∙ length-patch o d.at r in
      record {
        ready = record { long = a.long; regular = a.regular; room = rw stands (omega (arith, a.room, l)) };
        whole = omega (arith, a.room, l);
        progress = rw stands p;
        sender = rw stands s;
        view = rw stands h;
      }

  pub out_does : {d₁ : Draft} {m₁ o₂ : List ℕ} → Does (progress (part o₁ d.at (length r))) d m o₁ d₁ m₁ o₂ → Does (progress r) d m o d₁ m₁ o₂
  out_does x =
      does_over (progress r) r (omega (arith, a.room)) q (λ s. omega (arith, progress_long (work_of d m o s) r h, written_at d m o a s))
      (does_same (progress (part o₁ d.at (length r))) (progress r) (λ s. ap (λ (y : List ℕ). progress y (work_of d m o₁ s)) stands) x)

-- the safe certificate alone
abbrev pub adopt_safe : List ℕ → Work → Work
adopt_safe r W = adopt W (safe_certificate (settings W) (certificate_of r))

pub adopt_does : (d : Draft) (m o r : List ℕ) {c : Counters} → d.at ≤ length o → c ≡ adopting d.counters (safe_certificate (settings_of m) (certificate_of r))
    → Does (adopt_safe r) d m o (record { counters = c; at = d.at }) m o
unfolding adopt
adopt_does d m o r {c} h e =
    record {
      leaves = λ s. same_left (record { counters = c; at = d.at }) m o s (adopt_safe r (work_of d m o s)) o e (sym (length-take-le d.at o h)) refl
          (sym (take-append-drop d.at o) ∙ ap (λ (i : ℕ). take d.at o ++ drop i o) (sym (length-take-le d.at o h))) refl;
    }

module _ (d : Draft) (m o r : List ℕ) (a : Ready d m o (certificate_room r)) (p : IsProgress (replicas (settings_of m)) r) where
  long : 24 ≤ length r
  long = (form_stands _ r p.form).head

  -- it is below the current view
  pub below_does : {v : ℕ} {c : Counters} → v ≡ le_nat (part r 8 8) → v < d.counters.view.0 → c ≡ adopting d.counters (safe_certificate (settings_of m) (certificate_of r))
      → Does (progress r) d m o (record { counters = c; at = d.at }) m o
  unfolding progress
  below_does e h q =
      does_same (adopt_safe r) (progress r) (λ s. rw (form_view (work_of d m o s) r, ← e, lt-leb _ _ h)) (adopt_does d m o r (omega (arith, a.room)) q)

  -- it is written with own as sender
  module _ {v j : ℕ} {o₁ o₂ : List ℕ} (e : v ≡ le_nat (part r 8 8)) (h : d.counters.view.0 ≤ v) (q : o₁ ≡ patch o d.at r) (i : j ≡ own_of m) (t : o₂ ≡ patch o₁ (d.at + 6) (le_bytes 2 j)) where
    abbrev sent : List ℕ
    sent = with_sender (own_of m) r

    length-sent : length sent ≡ length r
    length-sent = length-patch r 6 (le_bytes 2 (own_of m))

    put_sent : o₂ ≡ patch o d.at sent
    put_sent = t ∙ rw (q, i) (patch_inner o d.at r 6 (le_bytes 2 (own_of m)) (omega (arith, long, length-le_bytes 2 (own_of m))))

    same_view : view_of sent ≡ view_of r
    same_view = ap le_nat (sender_behind (own_of m) r (omega (arith, long)) 8 8 (omega arith))

    -- all that is asked of a record that stands in the output
    sent_ready : Ready d m o (certificate_room sent)
    sent_ready = rw (length-sent, sender_before (own_of m) r (omega (arith, long)) 4 2 (omega arith)) a

    sent_progress : IsProgress (replicas (settings_of m)) sent
    sent_progress = record { form = sender_form (own_of m) r (replicas (settings_of m)) p.form; view = omega (arith, same_view, p.view) }

    sent_sender : sender_of sent ≡ own_of m
    sent_sender = let f = ready_facts d m o a in sender_put (own_of m) r (omega (arith, long)) (omega (arith, f.few, f.member))

    sent-view : d.counters.view.0 ≤ view_of sent
    sent-view = omega (arith, same_view, e, h)

    pub put_in_output : InOutput d m o₂ (length r)
    put_in_output = rw length-sent at (in_output d m o sent sent_ready sent_progress sent_sender sent-view put_sent)

    pub came_does : {d₁ : Draft} {m₁ o₃ : List ℕ} → Does (progress (part o₂ d.at (length r))) d m o₂ d₁ m₁ o₃ → Does (progress r) d m o d₁ m₁ o₃
    came_does x =
        does_same (progress sent) (progress r) (λ s. progress_sender (work_of d m o s) r (omega (arith, long)))
        (out_does d m o sent sent_ready sent_progress sent_sender sent-view put_sent (rw (← length-sent) at x))
