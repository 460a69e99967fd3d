-- `settle` IS THE LOOP (01: The box): "After the event the first rule that applies is run, again and again." Every step of `settle` is one turn of that loop,
-- afterwards no rule applies, a turn is determined, and so the loop ends at `settle` and nowhere else, and always ends. Assumes nothing.
use mathlib.Core.Path.{◌≡◌, refl, sym, ap, ap₂, subst}
use mathlib.Core.Logic.{⊎_elim}
use mathlib.Core.List.{List}
use Prim.Native.Nat.{ℕ, suc}
use native.Mathlib.Omega.{arith}
use Rattle.codec.proofs.Order.{which, less_total}
use Rattle.protocol.specs.Work.{Work}
use Rattle.protocol.specs.Rules.{settle}
use Rattle.protocol.specs.Applies.{AppliesA, AppliesB, AppliesC, AppliesD, run_a, run_b, run_c, run_d, Done, Lowest, First, Turn, by_a, by_b, by_c, by_d, Turns, rest, turn}
use Rattle.protocol.proofs.call.Regular.{Regular}
use Rattle.protocol.proofs.loop.Turns.{Reaches, reaches_then}
use Rattle.protocol.proofs.loop.RuleA.{phase_a_lem}
use Rattle.protocol.proofs.loop.RuleB.{phase_b_lem}
use Rattle.protocol.proofs.loop.RuleC.{phase_c_lem}
use Rattle.protocol.proofs.loop.RuleD.{AfterD, phase_d}

-- ---- settle, turn by turn: A, then B, then C, then D, each phase where the one before ended
settled : (W : Work) → Regular W → Reaches AfterD W (settle W)
unfolding settle
settled W R =
    reaches_then (phase_a_lem W R)
    (λ a. reaches_then (phase_b_lem _ a.regular a.no_a)
    (λ b. reaches_then (phase_c_lem _ b.regular b.no_a b.no_b)
    (λ c. phase_d _ _ c (omega arith))))

-- every step is the first rule that applied
pub settle_is_the_loop : (W : Work) → Regular W → Turns W (settle W)
settle_is_the_loop W R = (settled W R).by

-- afterwards no rule applies
pub settle_done : (W : Work) → Regular W → Done (settle W)
settle_done W R = (settled W R).so.done

-- ---- a turn is determined
lowest_same : (P : ℕ → Type 0) (u v : ℕ) → Lowest P u → Lowest P v → u ≡ v
lowest_same P u v a b = ⊎_elim (λ l. absurd (b.no_lower u l a.here)) (⊎_elim (λ e. e) (λ l. absurd (a.no_lower v l b.here))) (which u v)

first_view : (P : ℕ → List ℕ → Type 0) (u v : ℕ) (x y : List ℕ) → First P u x → First P v y → u ≡ v
first_view P u v x y a b = ⊎_elim (λ l. absurd (b.no_lower u x l a.here)) (⊎_elim (λ e. e) (λ l. absurd (a.no_lower v y l b.here))) (which u v)

first_name_lem : (P : ℕ → List ℕ → Type 0) (u v : ℕ) (x y : List ℕ) → First P u x → First P v y → x ≡ y
first_name_lem P u v x y a b =
    let e = first_view P u v x y a b in
    ⊎_elim (λ l. absurd (b.no_smaller x l (subst (λ (k : ℕ). P k x) e a.here)))
    (⊎_elim (λ d. d) (λ l. absurd (a.no_smaller y l (subst (λ (k : ℕ). P k y) (sym e) b.here))))
    (less_total x y)

pub turn_one : (W A B : Work) → Turn W A → Turn W B → A ≡ B
turn_one W A B (by_a u a) (by_a v b) = ap (λ (k : ℕ). run_a k W) (lowest_same (λ k. AppliesA k W) u v a b)
turn_one W A B (by_a u a) (by_b v n b) = absurd (n u a.here)
turn_one W A B (by_a u a) (by_c v y n m b) = absurd (n u a.here)
turn_one W A B (by_a u a) (by_d v y n m o b) = absurd (n u a.here)
turn_one W A B (by_b u n a) (by_a v b) = absurd (n v b.here)
turn_one W A B (by_b u n a) (by_b v m b) = ap (λ (k : ℕ). run_b k W) (lowest_same (λ k. AppliesB k W) u v a b)
turn_one W A B (by_b u n a) (by_c v y m o b) = absurd (o u a.here)
turn_one W A B (by_b u n a) (by_d v y m o p b) = absurd (o u a.here)
turn_one W A B (by_c u x n m a) (by_a v b) = absurd (n v b.here)
turn_one W A B (by_c u x n m a) (by_b v o b) = absurd (m v b.here)
turn_one W A B (by_c u x n m a) (by_c v y o p b) =
    ap₂ (λ (k : ℕ) (z : List ℕ). run_c k z W) (first_view (λ k z. AppliesC k z W) u v x y a b) (first_name_lem (λ k z. AppliesC k z W) u v x y a b)
turn_one W A B (by_c u x n m a) (by_d v y o p q b) = absurd (q u x a.here)
turn_one W A B (by_d u x n m o a) (by_a v b) = absurd (n v b.here)
turn_one W A B (by_d u x n m o a) (by_b v p b) = absurd (m v b.here)
turn_one W A B (by_d u x n m o a) (by_c v y p q b) = absurd (o v y b.here)
turn_one W A B (by_d u x n m o a) (by_d v y p q r b) =
    ap₂ (λ (k : ℕ) (z : List ℕ). run_d k z W) (first_view (λ k z. AppliesD k z W) u v x y a b) (first_name_lem (λ k z. AppliesD k z W) u v x y a b)

-- no turn where no rule applies
pub done_stays : (W A : Work) → Done W → Turn W A → ⊥
done_stays W A d (by_a u a) = d.no_a u a.here
done_stays W A d (by_b u n a) = d.no_b u a.here
done_stays W A d (by_c u x n m a) = d.no_c u x a.here
done_stays W A d (by_d u x n m o a) = d.no_d u x a.here

-- ---- the end: of two runs from W one of which ends, the other can be continued to that end
continued : (W U E : Work) → Turns W E → Done E → Turns W U → Turns U E
continued W U E t d rest = t
continued W U E rest d (turn {W₁ = A} a v) = absurd (done_stays W A d a)
continued W U E (turn {W₁ = B} b t) d (turn {W₁ = A} a v) = continued A U E (subst (λ (X : Work). Turns X E) (turn_one W B A b a) t) d v

ends : (U E : Work) → Done U → Turns U E → U ≡ E
ends U E d rest = refl
ends U E d (turn {W₁ = A} a t) = absurd (done_stays U A d a)

-- whatever turns are made, the loop goes on to `settle W`
pub loop_continues : (W U : Work) → Regular W → Turns W U → Turns U (settle W)
loop_continues W U R t = continued W U (settle W) (settle_is_the_loop W R) (settle_done W R) t

-- and it ends there and nowhere else
pub loop_ends : (W U : Work) → Regular W → Turns W U → Done U → U ≡ settle W
loop_ends W U R t d = ends U (settle W) d (loop_continues W U R t)

-- no run goes on for ever
endless : (W E : Work) → Turns W E → Done E → (run : ℕ → Work) → run 0 ≡ W → ((i : ℕ) → Turn (run i) (run (suc i))) → ⊥
endless W E rest d run e all = done_stays W (run 1) d (subst (λ (X : Work). Turn X (run 1)) e (all 0))
endless W E (turn {W₁ = A} a t) d run e all =
    endless A E t d (λ i. run (suc i)) (turn_one W (run 1) A (subst (λ (X : Work). Turn X (run 1)) e (all 0)) a) (λ i. all (suc i))

pub loop_always_ends : (W : Work) → Regular W → (run : ℕ → Work) → run 0 ≡ W → ((i : ℕ) → Turn (run i) (run (suc i))) → ⊥
loop_always_ends W R run e all = endless W (settle W) (settle_is_the_loop W R) (settle_done W R) run e all
