-- The run of the rules A, B and C: the first three parts of `settle` of protocol. Assumes nothing.
use Rattle.std.specs.Prelude.{ℕ, zero, suc, ◌+◌, ◌-◌, ◌≤◌, ◌<◌, Bool, true, false, cond, not, List, length, leb, ltb, eqb}
use Rattle.settings.specs.declared.Settings.{Settings}
use Rattle.settings.specs.Quorum.{block_quorum, timeout_quorum, replicas}
use Rattle.memory.specs.declared.decided.Quorums.{Quorums}
use Rattle.memory.specs.Layout.{settings_of, vote_row, timeout_row}
use Rattle.memory.specs.Kept.{kept_count}
use Rattle.memory.specs.Window.{lowest, highest}
use Rattle.memory.specs.Decided.{alone_in}
use Rattle.counters.specs.declared.Signed.{Signed}
use Rattle.std.specs.Borrow.{MutBor}
use Rattle.settings.specs.declared.View.{View}
use Rattle.settings.specs.Quorum.{last_view}
use Rattle.act.specs.declared.Draft.{Draft}
use Rattle.act.specs.Draft.{Does, Ready}
use Rattle.protocol.proofs.call.Regular.{Regular, Still}
use Rattle.protocol.specs.Work.{Work, view, view_now}
use Rattle.protocol.specs.Events.{progress}
use Rattle.protocol.specs.Rules.{formed_block, rule_a, rule_b, rule_c, each, timeout_views, ballot_views}

-- what rule C looks for in a view, by the memory alone: `enough_votes` of protocol
abbrev pub votes_wanted : List ℕ → ℕ → Quorums
votes_wanted m v = record { view = view v; n = replicas (settings_of m); votes = block_quorum (settings_of m); commits = suc (replicas (settings_of m)) }

-- the block certificate of a name is formed, and does what an accepted one does
unfoldable pub forms_block : ℕ → List ℕ → Work → Work
forms_block v x W = progress (formed_block v W x) W

-- all A, all B, all C, views ascending
unfoldable pub phase_a : Work → Work
phase_a W = each rule_a (view_now W) (timeout_views W) W

unfoldable pub phase_b : Work → Work
phase_b W = each rule_b (view_now W) (timeout_views W) W

unfoldable pub phase_c : Work → Work
phase_c W = each rule_c (lowest (view_now W)) (ballot_views W) W

unfoldable pub phases : Work → Work
phases W = phase_c (phase_b (phase_a W))

-- ---- A RULE AT EACH VIEW: what it does at one, so many bytes at most, and that nothing is unwritten and a regular replica stays regular
pub record Rule : Type 0 where
  pub does : ℕ → Work → Work
  pub room : ℕ
  pub longer : (v : ℕ) (W : Work) → length W.out ≤ length (does v W).out
  pub keeps : (W : Work) (v : ℕ) → v < last_view → Regular W → Regular (does v W) × Still W (does v W)
  pub grows : (W : Work) (v : ℕ) → v < last_view → Regular W → length (does v W).out ≤ length W.out + room

-- a function over the two regions may be called at a view where it has that room
abbrev pub Callable : (MutBor (List ℕ) → MutBor (List ℕ) → Draft → View → Type 0) → ℕ → Type 0
Callable pre room = (m o : MutBor (List ℕ)) (d : Draft) (v : View) → Ready d m.now o.now room → v.0 < last_view → pre m o d v

-- and what it leaves is what the rule says
abbrev pub Runs : (MutBor (List ℕ) → MutBor (List ℕ) → Draft → View → Draft → MutBor (List ℕ) → MutBor (List ℕ) → Type 0) → (ℕ → Work → Work) → Type 0
Runs post does = (m o : MutBor (List ℕ)) (d : Draft) (v : View) (e : Draft) (n p : MutBor (List ℕ)) → post m o d v e n p → Does (does v.0) d m.now o.now e n.now p.now

-- ---- NOTHING TO DO: tests by counts of kept timeouts and votes alone
-- a test fails at each of k views from v on
unfoldable pub nowhere : (ℕ → Bool) → ℕ → ℕ → Bool
nowhere test v zero = true
nowhere test v (suc k) = cond (test v) false (nowhere test (suc v) k)

module _ (m : List ℕ) where
  -- rule A or B may apply: while own timeout is to be sent where f+1 are kept, since B takes more; later where enough are kept for B
  abbrev pub echoable : Settings → ℕ → ℕ → Bool
  echoable s timed v =
      let kept = kept_count m (timeout_row v) (replicas s) in
      cond (ltb timed v) (ltb s.f kept) (leb (timeout_quorum s) kept)

  unfoldable pub few_timeouts : ℕ → ℕ → Bool
  few_timeouts view timed = nowhere (echoable (settings_of m) timed) view (suc (highest view) - view)

  -- a certificate that outranks the lock may be formed: never below the lock's view; at it where a quorum may be for another name, since the lock's own
  -- doesn't outrank it; above it where enough votes are kept
  abbrev pub certifiable : Settings → Signed → ℕ → Bool
  certifiable s lock v =
      cond (ltb v lock.view.0) false
      (cond (eqb v lock.view.0) (not (alone_in m (vote_row v) (replicas s) (block_quorum s) lock.name))
      (leb (block_quorum s) (kept_count m (vote_row v) (replicas s))))

  unfoldable pub few_votes : ℕ → Signed → Bool
  few_votes view lock = nowhere (certifiable (settings_of m) lock) (lowest view) (suc (highest view) - lowest view)
