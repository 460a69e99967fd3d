-- What a call has once its regions pass 2, and a record once it passes 3 to 5. Assumes nothing.
use mathlib.Core.Path.{◌≡◌, refl, sym, ◌∙◌}
use mathlib.Core.Bool.{Bool, true, false, true≢false}
use mathlib.Core.List.{List}
use Prim.Native.Nat.{ℕ, ◌≤◌, ◌<◌}
use borrow.Author.Tests.{ltb-true, ltb-false, not-false}
use lib.Dec.{ltb}
use lib.ListN.{length, replicate, length-replicate}
use Rattle.settings.specs.Quorum.{largest, replicas}
use Rattle.wire.specs.Shape.{bad_length, bad_kind, shape_rules}
use Rattle.blocks.specs.declared.Block.{Block}
use Rattle.blocks.specs.Store.{genesis}
use Rattle.memory.specs.Layout.{memory_length, settings_of, entry_of, entry_length_of}
use Rattle.memory.specs.Leaders.{Listed}
use Rattle.counters.specs.declared.Counters.{Counters}
use Rattle.protocol.specs.Refusals.{regular, region_rules}
use Rattle.refusals.specs.Number.{first_of}
use Rattle.refusals.specs.Early.{lent, certificate_sized}
use Rattle.refusals.proofs.Numbers.{passes}
use Rattle.refusals.proofs.Regular.{passed, sized_short, sized_long}

pub record Ready (c : Counters) (m : List ℕ) : Type 0 where
  pub long : memory_length ≤ length m
  pub few : replicas (settings_of m) ≤ largest
  pub first : 0 < c.view.0
  pub entry : certificate_sized (replicas (settings_of m)) (entry_of m) ≡ true
  pub listed : Listed m

pub regions_ready : (c : Counters) (m : List ℕ) (s : List Block) (room : ℕ) → first_of (region_rules (lent c m s) room) ≡ 0 → Ready c m
unfolding region_rules
regions_ready c m s room e =
    let a = passes _ _ refl e in
    let b = passes _ _ refl a.1 in
    let d = passes _ _ refl b.1 in
    let f = passes _ _ refl d.1 in
    let p = passed (lent c m s) (not-false (regular (lent c m s)) f.0) in
    record { long = ltb-false (length m) memory_length a.0; few = p.few; first = p.view_first; entry = p.entry; listed = (p.leaders_some, p.leaders_most) }

-- of a number that is the place's answer for every store of a length
pub ready : (c : Counters) (m : List ℕ) (entries room k : ℕ) → ((s : List Block) → length s ≡ entries → k ≡ first_of (region_rules (lent c m s) room)) → k ≡ 0 → Ready c m
ready c m entries room k h e = regions_ready c m (replicate entries genesis) room (sym (h (replicate entries genesis) (length-replicate entries genesis)) ∙ e)

pub shape_whole : (n : ℕ) (r : List ℕ) → first_of (shape_rules n r) ≡ 0 → (bad_length r ≡ false) × (bad_kind r ≡ false)
shape_whole n r e = let a = passes _ _ refl e in (a.0, (passes _ _ refl a.1).0)

-- the entry certificate stands in its room
pub entry_fits : (n : ℕ) (m : List ℕ) → n ≤ largest → memory_length ≤ length m → certificate_sized n (entry_of m) ≡ true → (24 ≤ entry_length_of m) × (entry_length_of m ≤ 3608)
entry_fits n m f l e = (low (ltb (entry_length_of m) 24) refl, high (ltb 3608 (entry_length_of m)) refl)
  where
    low : (t : Bool) → ltb (entry_length_of m) 24 ≡ t → 24 ≤ entry_length_of m
    low false q = ltb-false (entry_length_of m) 24 q
    low true q = absurd (true≢false (sym e ∙ sized_short n m (ltb-true (entry_length_of m) 24 q)))

    high : (t : Bool) → ltb 3608 (entry_length_of m) ≡ t → entry_length_of m ≤ 3608
    high false q = ltb-false 3608 (entry_length_of m) q
    high true q = absurd (true≢false (sym e ∙ sized_long n m f l (ltb-true 3608 (entry_length_of m) q)))
