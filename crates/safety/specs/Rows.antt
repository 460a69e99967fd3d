-- Rows: blocks from genesis on, each the parent of the next, and the rows of a cluster's releases. Assumes nothing.
use Rattle.std.specs.Prelude.{List, [], ◌∷◌, ◌++◌, map, ◌≡◌, ℕ, suc}
use Rattle.safety.specs.Cluster.{Cluster, Direct}

-- l is the beginning of m
pub record Begins {A : Type 0} (l m : List A) : Type 0 where
  pub rest : List A
  pub is : m ≡ l ++ rest

module _ {Name : Type 0} (Parent : Name → Name → Type 0) (genesis : Name) where
  -- a row and its last block: genesis for the empty row
  pub data Row : List Name → Name → Type 0 where
    none : Row [] genesis
    more : {l : List Name} {x y : Name} → Row l y → Parent x y → Row (l ++ (x ∷ [])) x

  -- from y upward by `up` to x, each the parent of the next
  abbrev pub Upward : Name → List Name → Name → Type 0
  Upward y [] x = y ≡ x
  Upward y (a ∷ up) x = Parent a y × Upward a up x

  -- the premise on names: one parent each, and none for genesis
  pub record OneParent : Type 0 where
    pub one : (x y z : Name) → Parent x y → Parent x z → y ≡ z
    pub top : (y : Name) → Parent genesis y → ⊥

-- ---- rows with heights
module _ {A : Type 0} where
  abbrev pub firsts : List (A × ℕ) → List A
  firsts l = map (λ (a : A × ℕ). a.0) l

  -- heights h, h + 1, h + 2 and on
  abbrev pub number : ℕ → List A → List (A × ℕ)
  number h [] = []
  number h (a ∷ l) = (a, h) ∷ number (suc h) l

-- each block's parent is the one before, the first one's is y, and heights run from h on
module _ {A : Type 0} (Parent : A → A → Type 0) where
  abbrev pub Linked : ℕ → A → List (A × ℕ) → Type 0
  Linked h y [] = Unit {0}
  Linked h y (a ∷ l) = Parent a.0 y × (a.1 ≡ h) × Linked (suc h) a.0 l

-- the releases of a replica: none, or a row whose last block is released directly
pub data Released {Name : Type 0} (R : Cluster Name) (genesis : Name) : List Name → Type 0 where
  nothing : Released R genesis []
  up_to : {l : List Name} {v : ℕ} {x : Name} → Row R.Parent genesis l x → Direct R v x → Released R genesis l
