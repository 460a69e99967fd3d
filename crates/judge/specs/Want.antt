-- What a call is to look up in the store, or its refusal before that (01: Refusals, by place). Assumes nothing.
use Rattle.std.specs.Prelude.{ℕ, cond, List, eqb, Result, Ok, Err}
use Rattle.settings.specs.declared.refusal.Refusal.{Refusal}
use Rattle.settings.specs.Refusal.{number}
use Rattle.codec.specs.Names.{zero_name}
use Rattle.wire.specs.Shape.{shape_rules}
use Rattle.wire.specs.Content.{Certificate, certificate_of, Content, vote, commit, certificate, timeout, proposal, block, release, content}
use Rattle.certificate.specs.Safe.{safe_certificate}
use Rattle.memory.specs.Layout.{settings_of, block_count_of, entry_of}
use Rattle.protocol.specs.Work.{Work, n}
use Rattle.protocol.specs.Refusals.{region_rules}
use Rattle.protocol.specs.Calls.{◌then◌}
use Rattle.refusals.specs.Number.{first_of}
use Rattle.refusals.specs.Early.{early_rules, early_propose}
use Rattle.judge.specs.declared.Want.{Want}

-- a refusal by its number, and where that is 0 what is to be looked up: the names of a block and of the block below it, among the tip and the first `count` entries
pub record Wanted : Type 0 where
  pub refusal : ℕ
  pub count : ℕ
  pub name : List ℕ
  pub base : List ℕ

-- nothing is to be looked up
abbrev pub nothing : ℕ → Wanted
nothing k = record { refusal = k; count = 0; name = zero_name; base = zero_name }

-- two names, among the held blocks: a block's, and that of the block below it
abbrev pub names : List ℕ → List ℕ → List ℕ → Wanted
names m x base = record { refusal = 0; count = block_count_of m; name = x; base = base }

abbrev pub safe_block : List ℕ → Certificate → List ℕ
safe_block m k = (safe_certificate (settings_of m) k).name

-- what the code's answers mean: what is to be looked up, or the refusal
abbrev pub accepted : Want → Wanted
accepted w = record { refusal = 0; count = w.count; name = w.name; base = w.base }

unfoldable pub wanted : Result Want Refusal → Wanted
wanted (Ok w) = accepted w
wanted (Err r) = nothing (number r)

-- of a record: of kind 7 its name and the safe block, of kind 8 its name and its parent
unfoldable pub asked : List ℕ → Content → Wanted
asked m (vote j v x) = nothing 0
asked m (commit j v x) = nothing 0
asked m (certificate j k) = nothing 0
asked m (timeout t) = nothing 0
asked m (proposal j v x y h k) = names m x (safe_block m k)
asked m (block j x y h) = names m x y
asked m (release j v x h) = nothing 0

-- the refusal, if there is one by now, or what is to be looked up
unfoldable pub want_of : ℕ → Wanted → Wanted
want_of k w = cond (eqb k 0) w (nothing k)

module _ (W : Work) (room : ℕ) where
  unfoldable pub record_want : List ℕ → Wanted
  record_want r = want_of (first_of (region_rules W room then shape_rules (n W) r then early_rules W r (content r))) (asked W.memory (content r))

  unfoldable pub propose_want : List ℕ → Wanted
  propose_want x =
      want_of (first_of (region_rules W room then early_propose W x)) (names W.memory x (safe_block W.memory (certificate_of (entry_of W.memory))))
