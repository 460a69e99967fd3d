-- The search for what rule D releases, step by step: a place in `releasable` and `lowest_pair` of protocol, and what follows from it. Assumes nothing.
use Rattle.std.specs.Prelude.{ℕ, zero, suc, ◌+◌, ◌-◌, ◌*◌, ◌<◌, ◌≤◌, ◌≡◌, cond, ◌&&◌, Option, Some, None, List, [], ltb}
use Rattle.settings.specs.Quorum.{largest, replicas, fast_quorum, slow_quorum}
use Rattle.settings.specs.declared.View.{View}
use Rattle.blocks.specs.declared.Block.{Block}
use Rattle.blocks.specs.Store.{Found, missing, held, descends}
use Rattle.memory.specs.declared.decided.Quorums.{Quorums}
use Rattle.memory.specs.Layout.{settings_of}
use Rattle.memory.specs.Window.{lowest, highest}
use Rattle.memory.specs.Decided.{Choice, choice_of, too_few}
use Rattle.counters.specs.declared.Counters.{Counters}
use Rattle.counters.specs.declared.Signed.{Signed}
use Rattle.protocol.specs.Work.{Work, view, view_now, held_block}
use Rattle.protocol.specs.Rules.{releasable, Pair, lowest_pair, ballot_views}
use Rattle.release.specs.declared.Place.{Place}
use Rattle.release.specs.declared.Target.{Target}
use Rattle.release.specs.declared.Step.{Step}
use Rattle.release.specs.declared.Step.TheVariants.{On, Ends}

-- a replica that has written nothing in this call: the search reads nothing of that
abbrev pub standing : Counters → List ℕ → List Block → Work
standing c m s = record { counters = c; memory = m; store = s; out = [] }

-- counters of which view and tip are known: rule D reads no other, and changes the tip only
abbrev pub known_by : View → Block → Counters
known_by v tip =
    let none : Signed = record { view = view 0; name = []; signers = 0 } in
    record { view = v; timed = view 0; high = record { view = view 0; name = [] }; lock = none; weak = none; tip = tip }

-- once the search has begun, it reads the tip, the memory and the store
abbrev pub seen : Block → List ℕ → List Block → Work
seen tip m s = standing (known_by (view 0) tip) m s

abbrev pub target : ℕ → Block → Target
target v b = record { view = view v; block = b }

-- the name above which the search goes on, if there is one
abbrev pub after_of : Place → Choice
after_of p = choice_of p.after

-- ---- WHAT IS LEFT TO SEARCH: the other names of the view, and the views after it
unfoldable pub pair_from : Place → Work → Pair
pair_from p W =
    let x = releasable p.view.0 W p.tries (after_of p) in
    cond x.some (record { at = p.view.0; name = x }) (lowest_pair (suc p.view.0) p.views W)

-- the block of a pair, if there is one
unfoldable pub target_of : Pair → Work → Option Target
target_of p W = cond p.name.some (Some (target p.at (held_block W p.name.name).block)) None

unfoldable pub target_from : Place → Work → Option Target
target_from p W = target_of (pair_from p W) W

-- ---- WHAT RULE D RELEASES
unfoldable pub lowest_target : Work → Option Target
lowest_target W = target_of (lowest_pair (lowest (view_now W)) (ballot_views W) W) W

-- ---- the steps
-- a view has at most n kept votes and n kept commits: `tries` of protocol
abbrev pub tries_of : List ℕ → ℕ
tries_of m = replicas (settings_of m) + replicas (settings_of m) + 1

-- `enough_to_release` of protocol
abbrev pub quorums_of : List ℕ → ℕ → Quorums
quorums_of m v =
    record { view = view v; n = replicas (settings_of m); votes = fast_quorum (settings_of m); commits = slow_quorum (settings_of m) }

-- of k views after the first, those up to the last one with enough votes or commits
unfoldable pub views_after : List ℕ → ℕ → ℕ → ℕ
views_after m first zero = zero
views_after m first (suc k) = cond (too_few m (quorums_of m (first + suc k))) (views_after m first k) (suc k)

unfoldable pub first_place : ℕ → List ℕ → Place
first_place v m =
    record {
      view = view (lowest v);
      after = None;
      views = views_after m (lowest v) (highest v - lowest v);
      tries = tries_of m;
    }

-- what is held of a name, if it leads to the tip
unfoldable pub leading : Block → List Block → List ℕ → Found
leading tip store x = let b = held tip store x in cond (b.is && descends tip store b.block) b missing

-- ---- views with too few votes and commits are passed over
abbrev pub at_next_view : List ℕ → Place → Place
at_next_view m p = record { view = view (p.view.0 + 1); after = None; views = p.views - 1; tries = tries_of m }

-- no name of the view is left
unfoldable pub next_view : List ℕ → Place → Step
next_view m p = cond (ltb 0 p.views) (On (at_next_view m p)) (Ends None)

unfoldable pub passing : ℕ → List ℕ → Place → Place
passing zero m p = p
passing (suc k) m p = cond (too_few m (quorums_of m p.view.0)) (passing k m (at_next_view m p)) p

-- at most the views that come after it
unfoldable pub passed : List ℕ → Place → Place
passed m p = passing p.views m p

-- so many steps are left at most: it falls with each
unfoldable pub steps_left : Place → ℕ
steps_left p = p.views * (largest + largest + 2) + p.tries

-- A STEP from p: it goes on at q, from where the search finds what it finds from p on, with fewer steps; or it ends with that
abbrev pub Follows : Place → Work → Step → Type 0
Follows p W (On q) = (target_from q W ≡ target_from p W) × ((steps_left q < steps_left p) × (q.view.0 + q.views ≤ p.view.0 + p.views))
Follows p W (Ends t) = t ≡ target_from p W
