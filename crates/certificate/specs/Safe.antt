-- The safe certificate of a progress certificate (01: Rank and safe block), over a list of timeouts, whatever it holds. Assumes nothing.
use Rattle.std.specs.Prelude.{ℕ, ◌+◌, ◌/◌, ◌%◌, ◌^◌, Bool, cond, not, ◌&&◌, List, [], ◌∷◌, eqb, ltb, leb}
use Rattle.settings.specs.declared.Settings.{Settings}
use Rattle.settings.specs.Quorum.{replicas, weak_quorum}
use Rattle.codec.specs.Names.{same_bytes}
use Rattle.wire.specs.declared.Timeout.{Timeout}
use Rattle.wire.specs.Content.{by_block, by_timeouts}
use Rattle.certificate.specs.declared.Certificate.{Certificate}
use Rattle.certificate.specs.declared.Tally.{Tally}
use Rattle.certificate.specs.Rank.{block_certificate, weak_certificate, genesis_certificate, outranks, carried_certificate}

-- one timeout after another
unfoldable pub each : {B : Type 0} → (Timeout → B → B) → B → List Timeout → B
each f b [] = b
each f b (t ∷ l) = each f (f t b) l

-- "The highest candidate is its safe certificate; for equal kind, view and name, carried before built, lowest sender first": of two candidates
-- the later one only if it outranks the earlier
unfoldable pub better : Certificate → Certificate → Certificate
better l k = cond (outranks l k) l k

-- replica i is in the set
unfoldable pub signs : ℕ → ℕ → Bool
signs signers i = eqb (signers / 2 ^ i % 2) 1

-- the set with replica i in it, if there is one of that number among n
unfoldable pub joins : ℕ → ℕ → ℕ → ℕ
joins n i signers = cond (ltb i n && not (signs signers i)) (signers + 2 ^ i) signers

-- a timeout gives x in view v as high vote
unfoldable pub gives : ℕ → List ℕ → Timeout → Bool
gives v x t = eqb t.high.view.0 v && same_bytes t.high.name x

-- how many timeouts give that high vote, and who sent them: one timeout more, and a list of them
unfoldable pub backed_by : ℕ → ℕ → List ℕ → Timeout → Tally → Tally
backed_by n v x t b = cond (gives v x t) (record { count = b.count + 1; signers = joins n t.sender b.signers }) b

abbrev pub no_backing : Tally
no_backing = record { count = 0; signers = 0 }

abbrev pub backing : ℕ → ℕ → List ℕ → List Timeout → Tally
backing n v x l = each (backed_by n v x) no_backing l

-- "a weak certificate for each view and name that at least f+p+1 of its timeouts give as high vote (signers: those senders)":
-- k, or the one that the high vote of t builds among the timeouts l, if it is built and outranks k
unfoldable pub built_by : Settings → List Timeout → Timeout → Certificate → Certificate
built_by s l t k =
    let v = t.high.view.0 in
    let x = t.high.name in
    let b = backing (replicas s) v x l in
    cond (ltb 0 v && leb (weak_quorum s) b.count) (better (weak_certificate v x b.signers) k) k

-- first those carried in the timeouts, then those built, each in the order of the timeouts
unfoldable pub carried_by : Timeout → Certificate → Certificate
carried_by t k = better (carried_certificate t.carried) k

-- the safe certificate of a list of timeouts; of none it is genesis
unfoldable pub safe_of_timeouts : Settings → List Timeout → Certificate
safe_of_timeouts s [] = genesis_certificate
safe_of_timeouts s (t ∷ l) = each (built_by s (t ∷ l)) (each carried_by (carried_certificate t.carried) l) (t ∷ l)

-- "A block certificate is its own safe certificate."
unfoldable pub safe_certificate : Settings → Rattle.wire.specs.Content.Certificate → Certificate
safe_certificate s (by_block v x g) = block_certificate v x g
safe_certificate s (by_timeouts v ts) = safe_of_timeouts s ts
