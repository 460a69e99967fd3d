-- The place of an entry, one step of the walk from parent to parent and of the drop, and the verdicts of a drop. Assumes nothing.
use Rattle.std.specs.Prelude.{◌≡◌, ℕ, suc, ◌+◌, ◌^◌, Bool, false, cond, ◌&&◌, List, [], ◌∷◌, ltb, drop, get_or}
use Rattle.codec.specs.Names.{same_bytes}
use Rattle.certificate.specs.Safe.{signs}
use Rattle.blocks.specs.Store.{Found, genesis, held, below, descends, only}
use Rattle.blocks.specs.declared.Block.{Block}
use Rattle.blocks.specs.declared.Onward.{Onward}
use Rattle.blocks.specs.declared.Onward.TheVariants.{On, Ends}
use Rattle.blocks.specs.declared.Verdicts.{Verdicts}

-- the place of the first entry of a name, or the length where there is none
unfoldable pub place_of : List ℕ → List Block → ℕ
place_of x [] = 0
place_of x (b ∷ l) = cond (same_bytes b.name x) 0 (suc (place_of x l))

-- from the block b, of whose parent's name c is held: whether it goes on at c's block
abbrev pub goes_on : Block → Block → Found → Bool
goes_on tip b c = cond (same_bytes tip.name b.parent) false (c.is && below c.block b)

-- where it ends at b: well where it ends at the tip
abbrev pub ends_well : Block → Block → Bool
ends_well tip b = cond (same_bytes tip.name b.parent) (below tip b) false

-- one step from b: it goes on at the place of its parent's name, or it ends
abbrev pub onward_of : Block → List Block → Block → Onward
onward_of tip store b = cond (goes_on tip b (held tip store b.parent)) (On (place_of b.parent store)) (Ends (ends_well tip b))

-- the verdict of the entry at place j: a bit, and false from 128 on
unfoldable pub verdict_of : Verdicts → ℕ → Bool
verdict_of v j = ltb j 128 && signs v.0 j

-- v, to which the verdict of the entry at place i is added, if that is one of the first 128
unfoldable pub noted_of : Verdicts → ℕ → Bool → Verdicts
noted_of v i good = cond (good && ltb i 128) (record { 0 = v.0 + 2 ^ i }) v

-- place j is one of the first i, and one of the first 128
unfoldable pub remembered : ℕ → ℕ → Bool
remembered i j = ltb j i && ltb j 128

-- v has the verdicts of the first i entries, as far as there is room for them, and no other
abbrev pub Noted : Block → List Block → ℕ → Verdicts → Type 0
Noted tip store i v = (j : ℕ) → verdict_of v j ≡ (remembered i j && descends tip store (get_or store j genesis))

-- the kept entries from place i on
unfoldable pub kept_from : Block → List Block → ℕ → List Block
kept_from tip store i = only (descends tip store) (drop i store)
