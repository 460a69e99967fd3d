-- A RUN OF DEMAND 3: six replicas, five of them honest, and what each of these is handed, as data. That it meets every premise of OneChain.antt, in both forms, and that
-- replica 1 then has released the block, is proofs/example/Premises.antt. Assumes nothing.
use Rattle.std.specs.Prelude.{ℕ, Bool, ◌&&◌, List, [], ◌∷◌, leb, replicate}
use Rattle.settings.specs.declared.Settings.{Settings}
use Rattle.codec.specs.Names.{name_length, zero_name}
use Rattle.digest.specs.Sha256.{be_bytes}
use Rattle.wire.specs.Encode.{vote_bytes, block_certificate_bytes, proposal_bytes}
use Rattle.blocks.specs.declared.Block.{Block}
use Rattle.blocks.specs.Store.{genesis}
use Rattle.memory.specs.Layout.{memory_length}
use Rattle.counters.specs.Counters.{opened}
use Rattle.protocol.specs.Refusals.{store_length, output_length}
use Rattle.protocol.specs.Contents.{given}
use Rattle.protocol.specs.Calls.{Replica, opened_memory}
use Rattle.protocol.specs.OneCall.{receive}
use Rattle.protocol.specs.OneChain.{Entry, calls}

-- f = 1, c = 1, k = 0: n is 6, a block certificate needs 4 votes, and a fast release all 6
abbrev pub six : Settings
six = record { f = 1; c = 1; k = 0 }

-- replicas 1 to 5 are honest. Replica 0, the leader of view 1, is not: what it says is free
abbrev pub honest_ones : ℕ → Bool
honest_ones i = leb 1 i && leb i 5

-- ---- what the hosts lend: zero bytes and genesis blocks
unfoldable pub lent_memory : List ℕ
lent_memory = replicate memory_length 0

unfoldable pub lent_store : List Block
lent_store = replicate store_length genesis

unfoldable pub lent_output : List ℕ
lent_output = replicate output_length 0

-- the leader list: replica 0 stands in it twice, and replicas 1, 2, 4 and 5 not at all
unfoldable pub leaders : List ℕ
leaders = 0 ∷ 3 ∷ 0 ∷ []

-- replica i as its opening over them leaves it
abbrev pub opened_as : ℕ → Replica
opened_as i = record { counters = opened; memory = opened_memory lent_memory six i leaders; store = lent_store }

-- ---- the records
-- the block's contents, "abc", and its name, which is the digest of genesis, height 1 and these: by `sha256sum` of the 43 bytes
abbrev pub block_contents : List ℕ
block_contents = 0x61 ∷ 0x62 ∷ 0x63 ∷ []

unfoldable pub block_name : List ℕ
block_name = be_bytes name_length 0x64356fb03f8d51a5e1241a72375db2444558064f54b6a925e2a0f715e0603cfe

-- replica 0 proposes the block in view 1, on genesis, at height 1, with the genesis certificate
abbrev pub the_proposal : List ℕ
the_proposal = proposal_bytes 0 1 block_name zero_name 1 (block_certificate_bytes 0 0 zero_name 0)

-- replica j's vote for it
abbrev pub vote_of : ℕ → List ℕ
vote_of j = vote_bytes 1 j 1 block_name

-- replica 0's certificate of the votes of replicas 2 to 5: 60 is 2^2 + 2^3 + 2^4 + 2^5
abbrev pub the_certificate : List ℕ
the_certificate = block_certificate_bytes 0 1 block_name 60

-- ---- the run. Each record is handed over with the block's contents: beside votes and certificates only their length is judged
abbrev pub handed : List ℕ → Entry
handed bytes = record { output = lent_output; step = calls (receive bytes (given block_contents)) }

-- Every honest replica is handed the proposal, holds the block and votes for it. Replica 1 is handed the certificate: it locks, enters view 2 and commits.
-- Then it is handed the votes of the others, those of 2 to 5 as they made them, and with the last one releases the block
abbrev pub entries : List (ℕ × Entry)
entries =
    (1, handed the_proposal)
    ∷ (2, handed the_proposal)
    ∷ (3, handed the_proposal)
    ∷ (4, handed the_proposal)
    ∷ (5, handed the_proposal)
    ∷ (1, handed the_certificate)
    ∷ (1, handed (vote_of 2))
    ∷ (1, handed (vote_of 3))
    ∷ (1, handed (vote_of 4))
    ∷ (1, handed (vote_of 5))
    ∷ (1, handed (vote_of 0))
    ∷ []
