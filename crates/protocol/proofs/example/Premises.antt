-- THE PREMISES OF DEMAND 3 CAN BE MET, with a row that is not empty: the run of specs/Example.antt meets every one of them (`example_premises`), that on names in both
-- forms (`example_names`, `example_digests`), replica 1
-- releases the block at height 1 in it (`example_row`), and so its rows are one chain (`example_chain`, `example_checked`); in one,
-- `premises_met`. Assumes nothing.
use Prim.Native.Nat.{ℕ, ◌<◌}
use native.Mathlib.Omega.{arith}
use mathlib.Core.Path.{◌≡◌, refl, sym, ap, subst, ◌∙◌}
use mathlib.Core.Bool.{Bool, true, false, ◌&&◌}
use mathlib.Core.Logic.{inl, inr}
use mathlib.Core.List.{List, [], ◌∷◌}
use lib.Dec.{T, leb, leb→le, lit<, lit≤}
use lib.ListN.{length}
use Rattle.settings.specs.declared.Settings.{Settings}
use Rattle.codec.specs.Bytes.{IsBytes}
use Rattle.codec.specs.Names.{zero_name}
use Rattle.wire.specs.Content.{Content}
use Rattle.wire.specs.Encode.{encode, certificate_bytes}
use Rattle.wire.specs.Fit.{All, Fits}
use Rattle.wire.proofs.ReadBack.{read_written}
use Rattle.safety.specs.Lists.{In}
use Rattle.safety.specs.Count.{count}
use Rattle.safety.specs.Run.{AllAllowed, Earlier, Read, is_vote, is_commit, is_timeout, is_release, is_other, released as row_in}
use Rattle.protocol.specs.Calls.{Replica}
use Rattle.protocol.specs.OneChain.{Placement, Entry, Triple, replica_machine, read_of, reads, Premises, OnePlacement, OneDigest, OneChain, placed, taken, row_of}
use Rattle.protocol.specs.Example.{six, honest_ones, opened_as, block_contents, block_name, the_proposal, vote_of, the_certificate, entries, leaders}
use Rattle.protocol.proofs.chain.Demand3.{demand_3}
use Rattle.protocol.proofs.chain.Checked.{demand_3_checked}
use Rattle.protocol.proofs.example.Proposal.{is_opened}
use Rattle.protocol.proofs.example.Certificate.{sent_on, committed}
use Rattle.protocol.proofs.example.Votes.{vote_fits, released}
use Rattle.protocol.proofs.example.Entries.{the_placement, the_taken, r₂, r₃, r₄, r₅, r₆, p₁, p₂, p₃, p₄, p₅, c₁, v₂, v₃, v₄, v₅, v₀, proposal_says, vote_says, certificate_says_lem, sent_fits, commit_fits, release_fits, proposal_gives, certificate_gives, vote_gives, release_gives, proposal_takes, certificate_takes, vote_takes, proposal_bytes_lem, certificate_bytes_lem, vote_bytes_lem}

-- ---- one placement
placed_are : placed six honest_ones opened_as entries ≡ the_placement ∷ the_placement ∷ the_placement ∷ the_placement ∷ the_placement ∷ []
placed_are =
    rw (
      proposal_gives 1 (lit< tt) p₁,
      proposal_gives 2 (lit< tt) p₂,
      proposal_gives 3 (lit< tt) p₃,
      proposal_gives 4 (lit< tt) p₄,
      proposal_gives 5 (lit< tt) p₅,
      certificate_gives,
      vote_gives r₂ 2 (lit< tt) v₂,
      vote_gives r₃ 3 (lit< tt) v₃,
      vote_gives r₄ 4 (lit< tt) v₄,
      vote_gives r₅ 5 (lit< tt) v₅,
      release_gives,
    )

only_the_one : (a : Placement) → In a (placed six honest_ones opened_as entries) → a ≡ the_placement
only_the_one a p = go (subst (In a) placed_are p)
  where
    go : In a (the_placement ∷ the_placement ∷ the_placement ∷ the_placement ∷ the_placement ∷ []) → a ≡ the_placement
    go (inl e) = e
    go (inr (inl e)) = e
    go (inr (inr (inl e))) = e
    go (inr (inr (inr (inl e)))) = e
    go (inr (inr (inr (inr (inl e))))) = e
    go (inr (inr (inr (inr (inr e))))) = absurd e

-- ---- what is handed over, is bytes
all_allowed : AllAllowed replica_machine opened_as entries
all_allowed =
    let P : IsBytes the_proposal × Unit {0} = (proposal_bytes_lem, tt) in
    let C : IsBytes the_certificate × Unit {0} = (certificate_bytes_lem, tt) in
    let votes : (j : ℕ) → j < 6 → IsBytes (vote_of j) × Unit {0} = λ j h. (vote_bytes_lem j h, tt) in
    (P, (P, (P, (P, (P, (C, (votes 2 (lit< tt), (votes 3 (lit< tt), (votes 4 (lit< tt), (votes 5 (lit< tt), (votes 0 (lit< tt), tt)))))))))))

-- ---- "that box made it earlier in the list"
-- what the proposals made, and what was made after them
abbrev five_votes : List (ℕ × List ℕ) → List (ℕ × List ℕ)
five_votes L = (1, vote_of 1) ∷ (2, vote_of 2) ∷ (3, vote_of 3) ∷ (4, vote_of 4) ∷ (5, vote_of 5) ∷ L

-- what replica 0 says is free
free : {A B : Type 0} → A → (⊥ → B) × Unit {0}
free ok = (λ h. absurd h, tt)

second : {A B : Type 0} (L : List (ℕ × List ℕ)) → A → (B → In (2, vote_of 2) (five_votes L)) × Unit {0}
second L ok = (λ h. inr (inl refl), tt)

third : {A B : Type 0} (L : List (ℕ × List ℕ)) → A → (B → In (3, vote_of 3) (five_votes L)) × Unit {0}
third L ok = (λ h. inr (inr (inl refl)), tt)

fourth : {A B : Type 0} (L : List (ℕ × List ℕ)) → A → (B → In (4, vote_of 4) (five_votes L)) × Unit {0}
fourth L ok = (λ h. inr (inr (inr (inl refl))), tt)

fifth : {A B : Type 0} (L : List (ℕ × List ℕ)) → A → (B → In (5, vote_of 5) (five_votes L)) × Unit {0}
fifth L ok = (λ h. inr (inr (inr (inr (inl refl)))), tt)

-- the signers of the certificate
signers : {A B C D E : Type 0} → A
    → (B → In (5, vote_of 5) (five_votes [])) × ((C → In (4, vote_of 4) (five_votes [])) × ((D → In (3, vote_of 3) (five_votes [])) × ((E → In (2, vote_of 2) (five_votes [])) × Unit {0})))
unfolding second third fourth fifth
signers ok = ((fifth [] ok).0, ((fourth [] ok).0, ((third [] ok).0, second [] ok)))

made_earlier : Earlier replica_machine honest_ones opened_as [] entries
unfolding All
made_earlier =
    let more : List (ℕ × List ℕ) = (1, sent_on) ∷ (1, committed) ∷ [] in
    rw (p₁.makes, p₂.makes, p₃.makes, p₄.makes, p₅.makes, c₁.makes, v₂.makes, v₃.makes, v₄.makes, v₅.makes)
    (rw (proposal_says (opened_as 1), proposal_says (opened_as 2), proposal_says (opened_as 3), proposal_says (opened_as 4), proposal_says (opened_as 5), certificate_says_lem)
    (rw (vote_says r₂ 2 (lit< tt), vote_says r₃ 3 (lit< tt), vote_says r₄ 4 (lit< tt), vote_says r₅ 5 (lit< tt), vote_says r₆ 0 (lit< tt))
    (free, (free, (free, (free, (free, (signers, (second more, (third more, (fourth more, (fifth more, (free, tt)))))))))))))

-- ---- THE PREMISES
numbered : (i : ℕ) → T (honest_ones i) → i < 6
numbered i h = go (leb 1 i) h
  where
    go : (t : Bool) → T (t && leb i 5) → i < 6
    go true p = omega (arith, leb→le i 5 p)
    go false p = absurd p

pub example_premises : Premises six honest_ones opened_as entries leaders
unfolding All count
example_premises =
    record {
      enough = lit≤ tt;
      numbers = numbered;
      opened = λ i h. is_opened i (numbered i h);
      on_honest = (tt, (tt, (tt, (tt, (tt, (tt, (tt, (tt, (tt, (tt, (tt, tt)))))))))));
      allowed = all_allowed;
      earlier = made_earlier;
    }

-- the premise on names, in 01's form
pub example_names : OnePlacement six honest_ones opened_as entries
example_names a b p q e =
    let α = only_the_one a p in
    let β = only_the_one b q in
    (ap (λ (x : Placement). x.parent) α ∙ sym (ap (λ (x : Placement). x.parent) β), ap (λ (x : Placement). x.height) α ∙ sym (ap (λ (x : Placement). x.height) β))

-- and in 02's: every block was taken with its contents, and there is one triple alone
taken_are : taken six honest_ones opened_as entries ≡ the_taken ∷ the_taken ∷ the_taken ∷ the_taken ∷ the_taken ∷ []
taken_are =
    rw (
      proposal_takes 1 p₁,
      proposal_takes 2 p₂,
      proposal_takes 3 p₃,
      proposal_takes 4 p₄,
      proposal_takes 5 p₅,
      certificate_takes,
      vote_takes r₂ 2 (lit< tt) [] v₂,
      vote_takes r₃ 3 (lit< tt) [] v₃,
      vote_takes r₄ 4 (lit< tt) [] v₄,
      vote_takes r₅ 5 (lit< tt) [] v₅,
      vote_takes r₆ 0 (lit< tt) (released ∷ []) v₀,
    )

pub example_digests : OneDigest six honest_ones opened_as entries
unfolding All
example_digests = record { checked = rw taken_are (tt, (tt, (tt, (tt, (tt, tt))))); one_triple = λ a b p q e. only a (rw taken_are at p) ∙ sym (only b (rw taken_are at q)) }
  where
    the_triple : Triple
    the_triple = record { parent = zero_name; height = 1; contents = block_contents }

    only : (a : Triple) → In a (the_triple ∷ the_triple ∷ the_triple ∷ the_triple ∷ the_triple ∷ []) → a ≡ the_triple
    only a (inl e) = e
    only a (inr (inl e)) = e
    only a (inr (inr (inl e))) = e
    only a (inr (inr (inr (inl e)))) = e
    only a (inr (inr (inr (inr (inl e))))) = e
    only a (inr (inr (inr (inr (inr e))))) = absurd e

-- ---- THE ROW: replica 1 made its vote, the certificate sent on, its commit and its release
-- one record more
abbrev row_with : Read (List ℕ) → List (List ℕ × ℕ) → List (List ℕ × ℕ)
row_with (is_vote v x) l = l
row_with (is_commit v x) l = l
row_with (is_timeout t) l = l
row_with (is_release x h) l = (x, h) ∷ l
row_with is_other l = l

pub row_with_lem : (c : Content) → Fits c → (l : List (List ℕ)) → row_in reads (encode c ∷ l) ≡ row_with (read_of c) (row_in reads l)
row_with_lem c f l = go (read_of c) (ap read_of (read_written c f))
  where
    go : (a : Read (List ℕ)) → reads (encode c) ≡ a → row_in reads (encode c ∷ l) ≡ row_with a (row_in reads l)
    go (is_vote v x) e = rw (row_in, e)
    go (is_commit v x) e = rw (row_in, e)
    go (is_timeout t) e = rw (row_in, e)
    go (is_release x h) e = rw (row_in, e)
    go is_other e = rw (row_in, e)

its_row : row_in reads (vote_of 1 ∷ sent_on ∷ committed ∷ released ∷ []) ≡ (block_name, 1) ∷ []
unfolding encode certificate_bytes sent_on committed released
its_row =
    row_with_lem _ (vote_fits 1 (lit< tt)) (sent_on ∷ committed ∷ released ∷ []) ∙ row_with_lem _ sent_fits (committed ∷ released ∷ []) ∙ row_with_lem _ commit_fits (released ∷ [])
    ∙ row_with_lem _ release_fits []

pub example_row : row_of six honest_ones opened_as entries 1 ≡ (block_name, 1) ∷ []
example_row = rw (p₁.makes, p₂.makes, p₃.makes, p₄.makes, p₅.makes, c₁.makes, v₂.makes, v₃.makes, v₄.makes, v₅.makes, v₀.makes) its_row

pub example_chain : OneChain six honest_ones opened_as entries
example_chain = demand_3 six leaders honest_ones opened_as entries example_premises example_names

pub example_checked : OneChain six honest_ones opened_as entries
example_checked = demand_3_checked six leaders honest_ones opened_as entries example_premises example_digests

-- in one: settings, honest replicas, opened states, entries and leader list that meet the premises, that on names in both forms, and an honest replica whose row is not empty
abbrev pub PremisesMet : Type 0
PremisesMet =
    (set : Settings) × (honest : ℕ → Bool) × (σ : ℕ → Replica) × (run : List (ℕ × Entry)) × (leaders : List ℕ) × Premises set honest σ run leaders × OnePlacement set honest σ run
    × OneDigest set honest σ run × (i : ℕ) × T (honest i) × (row_of set honest σ run i ≡ [] → ⊥)

pub premises_met : PremisesMet
premises_met = (six, honest_ones, opened_as, entries, leaders, example_premises, example_names, example_digests, 1, tt, λ e. let z : ◌≡◌ {A = ℕ} 1 0 = ap length (sym example_row ∙ e) in omega arith)
