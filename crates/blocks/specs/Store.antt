-- The store of blocks: search, ancestry, releases, drop (01: The box, rule D; How each place should look). A store here is the list of the
-- held entries. Everything is total: on any content, names twice included, a name means the first entry of that name. Assumes nothing.
use Rattle.std.specs.Prelude.{ℕ, zero, suc, Bool, true, false, cond, ◌&&◌, Option, Some, None, List, [], ◌∷◌, ◌++◌, map, ltb, length, take, drop}
use Rattle.codec.specs.Names.{same_bytes, zero_name}
use Rattle.wire.specs.Encode.{release_bytes, joined}
use Rattle.blocks.specs.declared.Block.{Block}

-- genesis, the first tip: the all-zero name, height 0
abbrev pub genesis : Block
genesis = record { name = zero_name; parent = zero_name; height = record { 0 = 0 } }

-- what is held of a name: whether there is a block, and which
pub record Found : Type 0 where
  pub is : Bool
  pub block : Block

abbrev pub found : Block → Found
found b = record { is = true; block = b }

-- where nothing is found, the block is genesis
abbrev pub missing : Found
missing = record { is = false; block = genesis }

-- what a search returns, as one of these
abbrev pub found_of : Option Block → Found
found_of None = missing
found_of (Some b) = found b

-- the first entry of a name
unfoldable pub find : List ℕ → List Block → Found
find x [] = missing
find x (b ∷ l) = cond (same_bytes b.name x) (found b) (find x l)

-- "The tip is held": a name is looked up tip first, then among the entries
unfoldable pub held : Block → List Block → List ℕ → Found
held tip store x = cond (same_bytes tip.name x) (found tip) (find x store)

abbrev pub below : Block → Block → Bool
below a b = ltb a.height.0 b.height.0

-- "the box walks from parent to parent down to the released tip": the parents of b lead to the tip, each height below the one before.
-- The first number bounds the steps; b's height is always enough
unfoldable pub leads : ℕ → Block → List Block → Block → Bool
leads zero tip store b = false
leads (suc k) tip store b =
    let c = held tip store b.parent in
    cond (same_bytes tip.name b.parent) (below tip b)
    (c.is && (below c.block b && leads k tip store c.block))

unfoldable pub descends : Block → List Block → Block → Bool
descends tip store b = leads b.height.0 tip store b

-- "writes the releases upward": the blocks of that walk, the lowest first, b last
unfoldable pub line : ℕ → Block → List Block → Block → List Block
line zero tip store b = []
line (suc k) tip store b =
    cond (same_bytes tip.name b.parent) (b ∷ [])
    (line k tip store (held tip store b.parent).block ++ (b ∷ []))

unfoldable pub ancestry : Block → List Block → Block → List Block
ancestry tip store b = line b.height.0 tip store b

-- the records of kind 9 for a row of blocks
unfoldable pub releases : ℕ → ℕ → List Block → List ℕ
releases sender view row = joined (map (λ (b : Block). release_bytes sender view b.name b.height.0) row)

-- the entries that pass a test, in their order
unfoldable pub only : (Block → Bool) → List Block → List Block
only test [] = []
only test (b ∷ l) = cond (test b) (b ∷ only test l) (only test l)

-- "drops every block that doesn't descend from it": what is held afterwards
unfoldable pub kept : Block → List Block → List Block
kept tip store = only (descends tip store) store

-- the entries of a lent store of which the first count are held: the kept ones in front, behind them what stood there
unfoldable pub dropped : Block → ℕ → List Block → List Block
dropped tip count entries =
    let k = kept tip (take count entries) in
    k ++ drop (length k) entries
