-- Turns of the loop one after another, and a rule run at one view after another. Assumes nothing.
use mathlib.Core.Path.{◌≡◌, subst}
use Prim.Native.Nat.{ℕ, zero, suc, ◌+◌, ◌≤◌, ◌<◌}
use native.Mathlib.Omega.{arith}
use Rattle.protocol.specs.Work.{Work}
use Rattle.protocol.specs.Rules.{each}
use Rattle.protocol.specs.Applies.{Turns, rest, turn}

pub turns : {W W₁ W₂ : Work} → Turns W W₁ → Turns W₁ W₂ → Turns W W₂
turns rest t = t
turns (turn n s) t = turn n (turns s t)

-- turns lead from W to W', and P holds there
pub record Reaches (P : Work → Type 0) (W W' : Work) : Type 0 where
  pub by : Turns W W'
  pub so : P W'

-- and further turns from there
pub reaches_then : {P Q : Work → Type 0} {W X Y : Work} → Reaches P W X → (P X → Reaches Q X Y) → Reaches Q W Y
reaches_then a f = let b = f a.so in record { by = turns a.by b.by; so = b.so }

-- a rule at the views from lo on, below hi: P w is what holds before it runs at view w
pub each_reaches : (P : ℕ → Work → Type 0) (rule : ℕ → Work → Work) (lo hi : ℕ) → ((w : ℕ) (W : Work) → lo ≤ w → w < hi → P w W → Reaches (P (suc w)) W (rule w W))
    → (k w : ℕ) (W : Work) → lo ≤ w → w + k ≡ hi → P w W → Reaches (P hi) W (each rule w k W)
unfolding each
each_reaches P rule lo hi f zero w W a e p = let q : w ≡ hi = omega arith in record { by = rest; so = subst (λ (z : ℕ). P z W) q p }
each_reaches P rule lo hi f (suc k) w W a e p =
    reaches_then (f w W a (omega arith) p) (each_reaches P rule lo hi f k (suc w) (rule w W) (omega arith) (omega arith))
