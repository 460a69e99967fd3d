-- A replica at work: what a call has before it, what it has written so far, and the few actions of which every call is composed (01: The box).
-- Assumes nothing.
use Rattle.std.specs.Prelude.{ℕ, ◌+◌, cond, List, ◌++◌, length, take, set}
use Rattle.settings.specs.declared.Settings.{Settings}
use Rattle.settings.specs.declared.View.{View}
use Rattle.settings.specs.Quorum.{replicas}
use Rattle.codec.specs.Names.{name_length}
use Rattle.wire.specs.declared.Timeout.{Timeout}
use Rattle.wire.specs.Fields.{timeout_length}
use Rattle.wire.specs.Encode.{vote_bytes, timeout_bytes}
use Rattle.certificate.specs.declared.Certificate.{Certificate}
use Rattle.certificate.specs.Rank.{highest}
use Rattle.blocks.specs.declared.Block.{Block}
use Rattle.blocks.specs.Store.{Found, held, ancestry, releases, kept, dropped}
use Rattle.memory.specs.Layout.{vote_row, commit_row, timeout_row, settings_of, own_of, block_count_of, with_block_count, with_entry}
use Rattle.memory.specs.Kept.{keep}
use Rattle.memory.specs.Window.{entered}
use Rattle.counters.specs.declared.Counters.{Counters}
use Rattle.counters.specs.Counters.{locks_of, adopting, entering, timing, voting, releasing}

-- counters, lent memory, lent store, and the bytes written so far in this call
pub record Work : Type 0 where
  pub counters : Counters
  pub memory : List ℕ
  pub store : List Block
  pub out : List ℕ

abbrev pub view : ℕ → View
view v = record { 0 = v }

module _ (W : Work) where
  abbrev pub settings : Settings
  settings = settings_of W.memory

  abbrev pub n : ℕ
  n = replicas settings

  abbrev pub own : ℕ
  own = own_of W.memory

  abbrev pub view_now : ℕ
  view_now = W.counters.view.0

  abbrev pub timed : ℕ
  timed = W.counters.timed.0

  abbrev pub high_vote_view : ℕ
  high_vote_view = W.counters.high.view.0

  abbrev pub tip : Block
  tip = W.counters.tip

  -- the blocks that the store holds beside the tip
  abbrev pub blocks : List Block
  blocks = take (block_count_of W.memory) W.store

  -- the held block of a name: the tip is held
  abbrev pub held_block : List ℕ → Found
  held_block x = held tip blocks x

  -- ---- the actions
  abbrev pub with_counters : Counters → Work
  with_counters c = record { counters = c; memory = W.memory; store = W.store; out = W.out }

  abbrev pub with_memory : List ℕ → Work
  with_memory m = record { counters = W.counters; memory = m; store = W.store; out = W.out }

  -- "To send is to write the record to the output"
  abbrev pub send : List ℕ → Work
  send r = record { counters = W.counters; memory = W.memory; store = W.store; out = W.out ++ r }

  -- "the first vote and commit of each box ..., and timeouts": replica i's, of view v
  unfoldable pub keep_vote : ℕ → ℕ → List ℕ → Work
  keep_vote v i x = with_memory (keep W.memory (vote_row v) name_length i x)

  unfoldable pub keep_commit : ℕ → ℕ → List ℕ → Work
  keep_commit v i x = with_memory (keep W.memory (commit_row v) name_length i x)

  unfoldable pub keep_timeout : ℕ → ℕ → List ℕ → Work
  keep_timeout v i r = with_memory (keep W.memory (timeout_row v) timeout_length i r)

  unfoldable pub adopt : Certificate → Work
  adopt k = with_counters (adopting W.counters k)

  -- enter view v by a certificate, whose record has own as sender
  unfoldable pub enter_by : ℕ → List ℕ → Work
  enter_by v r =
      record {
        counters = entering W.counters (view v);
        memory = with_entry (entered W.memory view_now v) r;
        store = W.store;
        out = W.out;
      }

  -- "hold the block": a held name stays as it is
  unfoldable pub hold : Block → Work
  hold b =
      let k = block_count_of W.memory in
      cond (held_block b.name).is W
      (record { counters = W.counters; memory = with_block_count W.memory (k + 1); store = set W.store k b; out = W.out })

-- ---- the own votes and commits, as records
abbrev pub vote_record : Work → ℕ → List ℕ → List ℕ
vote_record W v x = vote_bytes 1 (own W) v x

abbrev pub commit_record : Work → ℕ → List ℕ → List ℕ
commit_record W v x = vote_bytes 2 (own W) v x

-- ---- "Own votes, commits and timeouts count": what is sent is kept too
unfoldable pub send_vote : ℕ → List ℕ → Work → Work
send_vote v x W =
    let W₁ = with_counters W (voting W.counters (record { view = view v; name = x })) in
    keep_vote (send W₁ (vote_record W v x)) v (own W) x

unfoldable pub send_commit : ℕ → List ℕ → Work → Work
send_commit v x W = keep_commit (send W (commit_record W v x)) v (own W) x

-- "send a timeout (high vote, and the higher of lock and best weak); timed = view"
unfoldable pub own_timeout : Work → ℕ → Timeout
own_timeout W v =
    let k = highest (locks_of W.counters) in
    record {
      sender = own W;
      view = view v;
      high = W.counters.high;
      carried = record { kind = cond k.block 3 4; view = k.view; name = k.name; signers = k.signers };
    }

unfoldable pub send_timeout : ℕ → Work → Work
send_timeout v W =
    let r = timeout_bytes (own_timeout W v) in
    let W₁ = keep_timeout (send W r) v (own W) r in
    with_counters W₁ (timing W.counters (view v))

-- "walks from parent to parent down to the released tip, writes the releases upward with the view of the deciding votes or commits, moves the tip,
-- and drops every block that doesn't descend from it"
unfoldable pub release : ℕ → Block → Work → Work
release v b W =
    let k = block_count_of W.memory in
    record {
      counters = releasing W.counters b;
      memory = with_block_count W.memory (length (kept b (blocks W)));
      store = dropped b k W.store;
      out = W.out ++ releases (own W) v (ancestry (tip W) (blocks W) b);
    }
