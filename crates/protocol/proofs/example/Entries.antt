-- The eleven calls of the run of specs/Example.antt, one after another: each is accepted, and what it leaves, makes, says of others and which placements it gives.
-- Assumes nothing.
use Prim.Native.Nat.{ℕ, zero, suc, ◌≤◌, ◌<◌}
use native.Mathlib.Omega.{arith}
use mathlib.Core.Path.{◌≡◌, refl, ap, ◌∙◌}
use mathlib.Core.Bool.{Bool}
use mathlib.Core.List.{List, [], ◌∷◌, ◌++◌}
use lib.Dec.{lit<, lit≤}
use Rattle.settings.specs.Quorum.{replicas}
use Rattle.codec.specs.Bytes.{IsBytes}
use Rattle.codec.specs.Names.{zero_name}
use Rattle.wire.specs.Content.{Content, by_block, commit, certificate, release}
use Rattle.wire.specs.Encode.{encode, certificate_bytes}
use Rattle.wire.specs.Fit.{CertificateFits, Fits}
use Rattle.wire.proofs.Tables.{bytes_encode}
use Rattle.wire.proofs.ReadBack.{read_written}
use Rattle.certificate.specs.Safe.{signs}
use Rattle.memory.proofs.Bits.{counted, signs_none}
use Rattle.protocol.specs.Work.{n}
use Rattle.protocol.specs.Contents.{Contents, given}
use Rattle.protocol.specs.Calls.{Replica, begin}
use Rattle.protocol.specs.OneCall.{left}
use Rattle.protocol.specs.OneChain.{Placement, outcome_of, says, gives, votes_of, record_gives, records_give, beside, takes}
use Rattle.protocol.specs.Example.{opened_as, block_contents, block_name, the_proposal, vote_of, the_certificate, handed}
use Rattle.protocol.proofs.example.Rows.{nobody, and_also}
use Rattle.protocol.proofs.example.Calls.{State, Step}
use Rattle.protocol.proofs.example.Proposal.{name_is, the_block, opened_state, proposal_fits, after_vote, proposal_step}
use Rattle.protocol.proofs.example.Certificate.{certificate_fits, sent_on, committed, after_certificate, oneself, certificate_step}
use Rattle.protocol.proofs.example.Votes.{vote_fits, released, vote_step, release_step}

-- ---- THE CALLS, one after another
-- replica i as its opening left it is handed the proposal
abbrev pub Proposed : ℕ → Type 0
Proposed i = Step (opened_as i) the_proposal (vote_of i ∷ []) (State i after_vote 1 (the_block ∷ []) 1 (and_also i nobody) nobody)

proposed : (i : ℕ) → 1 ≤ i → i < 6 → Proposed i
proposed i low high = proposal_step i low high (opened_as i) (opened_state i high)

-- replica 1, as each entry leaves it
abbrev pub r₁ : Replica
r₁ = left (outcome_of (opened_as 1) (handed the_proposal))

abbrev pub r₂ : Replica
r₂ = left (outcome_of r₁ (handed the_certificate))

abbrev pub r₃ : Replica
r₃ = left (outcome_of r₂ (handed (vote_of 2)))

abbrev pub r₄ : Replica
r₄ = left (outcome_of r₃ (handed (vote_of 3)))

abbrev pub r₅ : Replica
r₅ = left (outcome_of r₄ (handed (vote_of 4)))

abbrev pub r₆ : Replica
r₆ = left (outcome_of r₅ (handed (vote_of 5)))

abbrev pub Locked : (ℕ → Bool) → Replica → Type 0
Locked A = State 1 after_certificate 1 (the_block ∷ []) 2 A oneself

pub p₁ : Proposed 1
p₁ = proposed 1 (lit≤ tt) (lit< tt)

pub p₂ : Proposed 2
p₂ = proposed 2 (lit≤ tt) (lit< tt)

pub p₃ : Proposed 3
p₃ = proposed 3 (lit≤ tt) (lit< tt)

pub p₄ : Proposed 4
p₄ = proposed 4 (lit≤ tt) (lit< tt)

pub p₅ : Proposed 5
p₅ = proposed 5 (lit≤ tt) (lit< tt)

pub c₁ : Step r₁ the_certificate (sent_on ∷ committed ∷ []) (Locked oneself)
c₁ = certificate_step r₁ p₁.after

pub v₂ : Step r₂ (vote_of 2) [] (Locked (and_also 2 oneself))
unfolding counted
v₂ = vote_step 2 (lit< tt) (λ e. omega arith) oneself refl (lit≤ tt) r₂ c₁.after

pub v₃ : Step r₃ (vote_of 3) [] (Locked (and_also 3 (and_also 2 oneself)))
unfolding counted
v₃ = vote_step 3 (lit< tt) (λ e. omega arith) (and_also 2 oneself) refl (lit≤ tt) r₃ v₂.after

pub v₄ : Step r₄ (vote_of 4) [] (Locked (and_also 4 (and_also 3 (and_also 2 oneself))))
unfolding counted
v₄ = vote_step 4 (lit< tt) (λ e. omega arith) (and_also 3 (and_also 2 oneself)) refl (lit≤ tt) r₄ v₃.after

pub v₅ : Step r₅ (vote_of 5) [] (Locked (and_also 5 (and_also 4 (and_also 3 (and_also 2 oneself)))))
unfolding counted
v₅ = vote_step 5 (lit< tt) (λ e. omega arith) (and_also 4 (and_also 3 (and_also 2 oneself))) refl (lit≤ tt) r₅ v₄.after

pub v₀ : Step r₆ (vote_of 0) (released ∷ []) (λ s. Unit {0})
unfolding counted
v₀ = release_step 0 (lit< tt) (λ e. omega arith) (and_also 5 (and_also 4 (and_also 3 (and_also 2 oneself)))) refl refl r₆ v₅.after

-- ---- what the records say of others
no_votes : (k v : ℕ) (x : List ℕ) → votes_of k 0 v x ≡ []
no_votes zero v x = refl
no_votes (suc k) v x = rw (signs_none k) (no_votes k v x)

pub proposal_says : (r : Replica) → says r (handed the_proposal) ≡ (0, the_proposal) ∷ []
unfolding says encode certificate_bytes
proposal_says r = rw (read_written _ proposal_fits, no_votes)

pub vote_says : (r : Replica) (j : ℕ) → j < 6 → says r (handed (vote_of j)) ≡ (j, vote_of j) ∷ []
unfolding says encode
vote_says r j h = rw (read_written _ (vote_fits j h))

pub certificate_says_lem : says r₁ (handed the_certificate) ≡ (5, vote_of 5) ∷ (4, vote_of 4) ∷ (3, vote_of 3) ∷ (2, vote_of 2) ∷ []
unfolding says encode certificate_bytes signs
certificate_says_lem =
    let s = p₁.after in
    let six-of : n (begin r₁) ≡ 6 = ap (λ (r : Replica). n (begin r)) s.is ∙ ap replicas s.settings in
    rw (read_written _ certificate_fits, six-of)

-- ---- the placements: one alone
abbrev pub the_placement : Placement
the_placement = record { name = block_name; parent = zero_name; height = 1 }

gives_is : (r : Replica) (c : Content) → Fits c → {P : Replica → Type 0} (made : List (List ℕ)) → Step r (encode c) made P → gives r (handed (encode c)) ≡ record_gives c ++ records_give made
unfolding gives
gives_is r c f made s = rw (s.accepts, s.makes, read_written c f)

pub proposal_gives : (i : ℕ) → i < 6 → Proposed i → gives (opened_as i) (handed the_proposal) ≡ the_placement ∷ []
unfolding encode certificate_bytes
proposal_gives i h s = gives_is (opened_as i) _ proposal_fits (vote_of i ∷ []) s ∙ rw (read_written _ (vote_fits i h))

pub commit_fits : Fits (commit 1 1 block_name)
unfolding Fits
commit_fits = (lit< tt, lit< tt, name_is)

pub sent_fits : Fits (certificate 1 (by_block 1 block_name 60))
unfolding Fits CertificateFits
sent_fits = (lit< tt, (lit< tt, name_is, lit< tt))

pub release_fits : Fits (release 1 1 block_name 1)
unfolding Fits
release_fits = (lit< tt, lit< tt, name_is, lit< tt)

pub certificate_gives : gives r₁ (handed the_certificate) ≡ []
unfolding encode certificate_bytes sent_on committed
certificate_gives = gives_is r₁ _ certificate_fits (sent_on ∷ committed ∷ []) c₁ ∙ rw (read_written _ sent_fits, read_written _ commit_fits)

pub vote_gives : (r : Replica) (j : ℕ) → j < 6 → {P : Replica → Type 0} → Step r (vote_of j) [] P → gives r (handed (vote_of j)) ≡ []
unfolding encode
vote_gives r j h s = gives_is r _ (vote_fits j h) [] s

pub release_gives : gives r₆ (handed (vote_of 0)) ≡ []
unfolding encode released
release_gives = gives_is r₆ _ (vote_fits 0 (lit< tt)) (released ∷ []) v₀ ∙ rw (read_written _ release_fits)

-- ---- the blocks that were taken: one alone, with its contents
abbrev pub the_taken : Placement × Contents
the_taken = (the_placement, given block_contents)

takes_is : (r : Replica) (c : Content) → Fits c → {P : Replica → Type 0} (made : List (List ℕ)) → Step r (encode c) made P → takes r (handed (encode c)) ≡ beside (given block_contents) (record_gives c)
unfolding takes
takes_is r c f made s = rw (s.accepts, read_written c f)

pub proposal_takes : (i : ℕ) → Proposed i → takes (opened_as i) (handed the_proposal) ≡ the_taken ∷ []
unfolding encode certificate_bytes
proposal_takes i s = takes_is (opened_as i) _ proposal_fits (vote_of i ∷ []) s

pub certificate_takes : takes r₁ (handed the_certificate) ≡ []
unfolding encode certificate_bytes
certificate_takes = takes_is r₁ _ certificate_fits (sent_on ∷ committed ∷ []) c₁

pub vote_takes : (r : Replica) (j : ℕ) → j < 6 → {P : Replica → Type 0} (made : List (List ℕ)) → Step r (vote_of j) made P → takes r (handed (vote_of j)) ≡ []
unfolding encode
vote_takes r j h made s = takes_is r _ (vote_fits j h) made s

-- ---- what is handed over, is bytes
pub proposal_bytes_lem : IsBytes the_proposal
unfolding encode certificate_bytes
proposal_bytes_lem = bytes_encode _ proposal_fits

pub certificate_bytes_lem : IsBytes the_certificate
unfolding encode certificate_bytes
certificate_bytes_lem = bytes_encode _ certificate_fits

pub vote_bytes_lem : (j : ℕ) → j < 6 → IsBytes (vote_of j)
unfolding encode
vote_bytes_lem j h = bytes_encode _ (vote_fits j h)
