-- Propose, as the code does it; each premise is what one callee ensures, in the order of the calls. Assumes nothing.
use Prim.Native.Nat.{ℕ, suc, ◌+◌, ◌-◌, ◌≤◌}
use native.Mathlib.Numerals.{add-one}
use native.Mathlib.Omega.{arith}
use mathlib.Core.Path.{◌≡◌, refl, sym, ap, ◌∙◌}
use mathlib.Core.Bool.{false}
use mathlib.Core.List.{List}
use borrow.Author.Tests.{eq-eqb}
use lib.ListN.{length, take, drop, length-append, length-take, length-drop}
use Rattle.codec.proofs.Le.{bytes_part}
use Rattle.settings.specs.declared.Settings.{Settings}
use Rattle.settings.specs.Quorum.{replicas}
use Rattle.codec.specs.Bytes.{IsBytes, part, patch}
use Rattle.codec.proofs.Laws.{part_lent}
use Rattle.wire.specs.declared.Child.{Child}
use Rattle.wire.specs.Content.{certificate_of}
use Rattle.wire.specs.Encode.{proposal_bytes}
use Rattle.wire.specs.Fit.{IsName}
use Rattle.wire.proofs.Lengths.{length_proposal}
use Rattle.certificate.specs.declared.Certificate.{Certificate}
use Rattle.certificate.specs.Safe.{safe_certificate}
use Rattle.blocks.specs.declared.Block.{Block}
use Rattle.memory.specs.Layout.{entry_place, memory_length, entry_room, settings_of, own_of, entry_of, entry_length_of}
use Rattle.counters.specs.declared.Counters.{Counters}
use Rattle.counters.specs.Counters.{adopting}
use Rattle.protocol.specs.Work.{Work, send, adopt}
use Rattle.protocol.specs.Events.{proposition_of, on_propose}
use Rattle.protocol.proofs.call.Regular.{Regular, form_room, send_regular}
use Rattle.protocol.proofs.call.Certificates.{form_fits, fits_typed}
use Rattle.protocol.proofs.call.Rules.{adopts_regular}
use Rattle.protocol.proofs.call.Written.{Grows}
use Rattle.act.specs.declared.Draft.{Draft}
use Rattle.act.specs.Draft.{work_of, Does, Ready}
use Rattle.act.proofs.Steps.{empty_store, sent_at, sent_out, same_left, ready_next}
use Rattle.act.proofs.Advancing.{adopt_safe}
use Rattle.event.specs.declared.Event.{Event}
use Rattle.event.specs.Event.{Gives, HeldIs, hold_vote, safe_of_entry, own_proposal_bytes, Proposable}
use Rattle.event.proofs.Giving.{gives_same, does_gives}
use Rattle.event.proofs.Holding.{held_same_lem, tip_adopted, hold_vote_longer}

-- ---- the entry certificate lies in the memory
module _ (m : List ℕ) (long : memory_length ≤ length m) (few : length (entry_of m) ≤ entry_room) where
  pub entry_in : entry_place + entry_length_of m ≤ length m
  unfolding entry_of part
  entry_in = omega (arith, few, length-take (entry_length_of m) (drop entry_place m), length-drop entry_place m)

  pub entry_size : length (entry_of m) ≡ entry_length_of m
  unfolding entry_of part
  entry_size = omega (arith, few, length-take (entry_length_of m) (drop entry_place m), length-drop entry_place m)

pub entry_lent : (m : List ℕ) {k : ℕ} → k ≡ entry_length_of m → take (entry_place + k - entry_place) (drop entry_place m) ≡ entry_of m
unfolding entry_of
entry_lent m {k} e = part_lent m entry_place k ∙ rw e

pub safe_is : (m : List ℕ) {k : ℕ} {s : Settings} {c : Certificate} → k ≡ entry_length_of m → s ≡ settings_of m → c ≡ safe_certificate s (certificate_of (take (entry_place + k - entry_place) (drop entry_place m))) → c ≡ safe_of_entry m
unfolding safe_of_entry
safe_is m e s c = c ∙ rw (s, entry_lent m e)

pub own_proposal_is : (m : List ℕ) (v : ℕ) (x : Child) {k me : ℕ} → k ≡ entry_length_of m → me ≡ own_of m
    → proposal_bytes me v x.name x.parent x.height.0 (take (entry_place + k - entry_place) (drop entry_place m)) ≡ own_proposal_bytes m v x
unfolding own_proposal_bytes
own_proposal_is m v x e i = rw (i, entry_lent m e)

-- ---- the proposal is sent, and its certificate adopted
module _ (d : Draft) (m o : List ℕ) (x : List ℕ) (h : ℕ) (hx : IsName x) (R : Regular (work_of d m o empty_store)) (a : Ready d m o (88 + entry_room + 48)) where
  abbrev rec : List ℕ
  rec = entry_of m

  abbrev parent : List ℕ
  parent = (safe_of_entry m).name

  abbrev next : Block
  next = record { name = x; parent = parent; height = record { 0 = suc h } }

  abbrev sent : List ℕ
  sent = own_proposal_bytes m d.counters.view.0 (record { name = x; parent = parent; height = record { 0 = suc h } })

  abbrev proposes : Work → Work
  proposes W = adopt_safe rec (send W sent)

  rec_bytes : IsBytes rec
  unfolding entry_of
  rec_bytes = bytes_part m _ _ R.typed.memory

  rec_room : length rec ≤ entry_room
  rec_room = form_room (replicas (settings_of m)) rec R.few R.entry

  parent_name : IsName parent
  unfolding safe_of_entry
  parent_name = (fits_typed (settings_of m) (certificate_of rec) (omega (arith, R.few)) (form_fits (replicas (settings_of m)) rec rec_bytes R.entry)).name

  length-sent : length sent ≡ 88 + length rec
  unfolding own_proposal_bytes
  length-sent = length_proposal x hx parent parent_name (own_of m) d.counters.view.0 (suc h) rec

  module _ {k : Certificate} {at : ℕ} {o₁ : List ℕ} {c : Counters} (e : k ≡ safe_of_entry m)
      (p : (at ≡ d.at + (88 + length rec)) × (o₁ ≡ patch o d.at (own_proposal_bytes m d.counters.view.0 (record { name = x; parent = k.name; height = record { 0 = h + 1 } }))))
      (q : c ≡ adopting d.counters k) where
    put : o₁ ≡ patch o d.at sent
    put = p.1 ∙ rw (e, add-one h)

    fits : d.at + length sent ≤ length o
    fits = omega (arith, length-sent, rec_room, a.room)

    proposed : Does proposes d m o (record { counters = c; at = at }) m o₁
    unfolding adopt safe_of_entry
    proposed =
        record {
          leaves = λ s. same_left (record { counters = c; at = at }) m o₁ s (proposes (work_of d m o s)) o (q ∙ rw e)
              (p.0 ∙ ap (λ (i : ℕ). d.at + i) (sym length-sent) ∙ sent_at o d.at sent fits) refl (put ∙ sent_out o d.at sent fits) refl;
        }

    pub propose_ready : Ready (record { counters = c; at = at }) m o₁ 48
    unfolding adopt
    propose_ready =
        let W = work_of d m o empty_store in
        let g : Grows (88 + entry_room) W (proposes W) = omega (arith, length-append W.out sent, length-sent, rec_room) in
        ready_next proposes (88 + entry_room) 48 proposed a (adopts_regular (send W sent) rec rec_bytes R.entry (send_regular W sent R)) g (omega arith)

    pub propose_gives : {z : Event} {m₂ o₂ : List ℕ}
        → Gives (hold_vote d.counters.view.0 (record { name = x; parent = k.name; height = record { 0 = h + 1 } })) (HeldIs x false) (record { counters = c; at = at }) m o₁ z m₂ o₂
        → Gives (on_propose x) (Proposable x h) d m o z m₂ o₂
    unfolding on_propose proposition_of hold_vote safe_of_entry own_proposal_bytes
    propose_gives {z} {m₂} {o₂} y =
        let y' : Gives (hold_vote d.counters.view.0 next) (HeldIs x false) (record { counters = c; at = at }) m o₁ z m₂ o₂ = rw (e, add-one h) at y in
        gives_same (λ W. hold_vote d.counters.view.0 next (proposes W)) (on_propose x) (Proposable x h)
        (λ s l g. sym (rw (g.height, eq-eqb d.counters.view.0 d.counters.view.0 refl)))
        (does_gives proposes (hold_vote d.counters.view.0 next) (Proposable x h) (HeldIs x false) proposed y'
        (λ s g. held_same_lem x false d (record { counters = c; at = at }) m m o o₁ (tip_adopted d.counters k q) refl s g.new) (hold_vote_longer d.counters.view.0 next))
