-- The refusals of each call stand in the papers' order: "Refusals, by place, in this order", and 16 and 17 of contents. Of each call the whole list is taken, as Calls.antt has it. Assumes nothing.
use Prim.Native.Nat.{ℕ}
use mathlib.Core.Path.{◌≡◌, refl}
use mathlib.Core.Bool.{true}
use mathlib.Core.List.{List}
use Rattle.settings.specs.declared.Settings.{Settings}
use Rattle.settings.specs.Opening.{opening_rules, leader_rules}
use Rattle.wire.specs.Fields.{kind_of}
use Rattle.wire.specs.Content.{Certificate, by_block, by_timeouts, Content, certificate}
use Rattle.wire.specs.Shape.{shape_rules, certificate_kind_bad, bad_kind}
use Rattle.memory.specs.Leaders.{Leading}
use Rattle.protocol.specs.Work.{n}
use Rattle.protocol.specs.Refusals.{region_rules, refusals, timer_rules, propose_rules}
use Rattle.protocol.specs.Contents.{Contents, none, given, too_long_rule, record_digest_rule, right_before, record_place}
use Rattle.protocol.specs.Calls.{Replica, begin, ◌then◌, timer_refusals, record_refusals_with, propose_refusals_with, opening_refusals}
use Rattle.protocol.specs.OneCall.{opening_order, record_order, timer_order, propose_order, place, in_order, InOrder}
use Rattle.protocol.proofs.Branch.{by_kind}

pub opening_in_order : (r : Replica) (s : Settings) (m own : ℕ) (leaders : List ℕ) → InOrder opening_order (opening_refusals r s m own leaders)
unfolding place in_order opening_rules leader_rules
opening_in_order r s m own leaders = refl

pub timer_in_order : (r : Replica) (room v : ℕ) → InOrder timer_order (timer_refusals r room v)
unfolding place in_order region_rules timer_rules
timer_in_order r room v = refl

-- with contents of any length, or with none
pub propose_in_order : (lead : Leading) (r : Replica) (room : ℕ) (x : List ℕ) (c : Contents) → InOrder propose_order (propose_refusals_with lead r room x c)
unfolding place in_order region_rules propose_rules right_before
propose_in_order lead r room x none = refl
propose_in_order lead r room x (given s) = refl

-- the whole list, of a content
abbrev Whole : Leading → Replica → ℕ → List ℕ → Contents → Content → Type 0
Whole lead r room bytes c q =
    let W = begin r in
    InOrder record_order (region_rules W room then too_long_rule c then shape_rules (n W) bytes then right_before record_place (record_digest_rule W q c) (refusals W lead bytes q))

-- a record of any kind but 9, whatever else its bytes are, with contents of any length, or with none
pub record_in_order : (lead : Leading) (r : Replica) (room : ℕ) (bytes : List ℕ) (c : Contents) → (kind_of bytes ≡ 9 → ⊥) → InOrder record_order (record_refusals_with lead r room bytes c)
unfolding place in_order region_rules refusals right_before
record_in_order lead r room bytes none other =
    by_kind (Whole lead r room bytes none) bytes (λ j v x. refl) (λ j v x. refl) (λ t. refl) certified (λ e j v x y h k. refl) (λ e j x y h. refl) (λ e j v x h. absurd (other e))
  where
    certified : (j : ℕ) (k : Certificate) → Whole lead r room bytes none (certificate j k)
    certified j (by_block v x g) = refl
    certified j (by_timeouts v ts) = refl
record_in_order lead r room bytes (given s) other =
    by_kind (Whole lead r room bytes (given s)) bytes (λ j v x. refl) (λ j v x. refl) (λ t. refl) certified (λ e j v x y h k. refl) (λ e j x y h. refl) (λ e j v x h. absurd (other e))
  where
    certified : (j : ℕ) (k : Certificate) → Whole lead r room bytes (given s) (certificate j k)
    certified j (by_block v x g) = refl
    certified j (by_timeouts v ts) = refl

-- kind 9, a release, which is for the host alone: the rule for 4 of the place "shape" applies to it, so none that stands behind is asked, and up to there the list is in order
pub release_in_order : (r : Replica) (room : ℕ) (bytes : List ℕ) (c : Contents) → kind_of bytes ≡ 9
    → (bad_kind bytes ≡ true) × InOrder record_order (let W = begin r in region_rules W room then too_long_rule c then shape_rules (n W) bytes)
unfolding place in_order region_rules bad_kind certificate_kind_bad
release_in_order r room bytes none nine = (rw nine, refl)
release_in_order r room bytes (given s) nine = (rw nine, refl)
