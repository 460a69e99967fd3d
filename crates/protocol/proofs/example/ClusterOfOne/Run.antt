-- The cluster of one: the run of the first propose alone meets the premises of demand 3, and its row is the block. Assumes nothing.
use Prim.Native.Nat.{ℕ}
use native.Mathlib.Omega.{arith}
use mathlib.Core.Path.{◌≡◌, sym, ap, subst, ◌∙◌}
use mathlib.Core.Logic.{inl, inr}
use mathlib.Core.List.{List, [], ◌∷◌}
use lib.Dec.{eqb→eq, lit<, lit≤}
use lib.ListN.{length}
use Rattle.codec.specs.Names.{zero_name}
use Rattle.wire.specs.Content.{Content, vote, commit, certificate, proposal, release, by_block}
use Rattle.wire.specs.Encode.{encode, certificate_bytes, joined}
use Rattle.wire.specs.Fit.{IsName, All, Fits, CertificateFits}
use Rattle.wire.proofs.Facts.{Framed}
use Rattle.wire.proofs.ReadBack.{read_written}
use Rattle.safety.specs.Lists.{In}
use Rattle.safety.specs.Count.{count}
use Rattle.safety.specs.Run.{released}
use Rattle.memory.specs.Leaders.{by_list}
use Rattle.protocol.specs.Typed.{CountersTyped}
use Rattle.protocol.specs.Refusals.{next_block}
use Rattle.protocol.specs.Contents.{Contents, given}
use Rattle.protocol.specs.Calls.{Replica, begin, propose_call_with}
use Rattle.protocol.specs.OneCall.{propose}
use Rattle.protocol.specs.OneChain.{Placement, Entry, calls, outcome_of, makes, says, records_give, gives, takes, Triple, reads, Opened, placed, OneDigest}
use Rattle.protocol.specs.ClusterOfOne.{one, Alone, opened_alone, decided, Decides, itself, proposes, Releases}
use Rattle.protocol.proofs.call.Typing.{zero_is_name}
use Rattle.protocol.proofs.call.Opening.{opened_work, opening_takes}
use Rattle.protocol.proofs.chain.Records.{encode_framed}
use Rattle.protocol.proofs.chain.Call.{cut_joined}
use Rattle.protocol.proofs.example.Premises.{row_with_lem}
use Rattle.protocol.proofs.example.ClusterOfOne.Start.{openable, opening_is}

-- ---- the five records
module _ (x : List ℕ) (name : IsName x) where
  abbrev proposed : Content
  proposed = proposal 0 1 x zero_name 1 (by_block 0 zero_name 0)

  abbrev voted : Content
  voted = vote 0 1 x

  abbrev certified : Content
  certified = certificate 0 (by_block 1 x 1)

  abbrev committed : Content
  committed = commit 0 1 x

  abbrev releasing : Content
  releasing = release 0 1 x 1

  proposed_fits : Fits proposed
  unfolding Fits CertificateFits
  proposed_fits = (lit< tt, lit< tt, name, zero_is_name, lit< tt, (lit< tt, zero_is_name, lit< tt))

  voted_fits : Fits voted
  unfolding Fits
  voted_fits = (lit< tt, lit< tt, name)

  certified_fits : Fits certified
  unfolding Fits CertificateFits
  certified_fits = (lit< tt, (lit< tt, name, lit< tt))

  committed_fits : Fits committed
  unfolding Fits
  committed_fits = (lit< tt, lit< tt, name)

  releasing_fits : Fits releasing
  unfolding Fits
  releasing_fits = (lit< tt, lit< tt, name, lit< tt)

  framed : All Framed (decided x)
  unfolding All encode certificate_bytes
  framed =
      (encode_framed proposed proposed_fits, (encode_framed voted voted_fits, (encode_framed certified certified_fits, (encode_framed committed committed_fits, (encode_framed releasing releasing_fits, tt)))))

  -- the proposal alone places a name
  abbrev the_placement : Placement
  the_placement = record { name = x; parent = zero_name; height = 1 }

  decided_give : records_give (decided x) ≡ the_placement ∷ []
  unfolding encode certificate_bytes
  decided_give =
      rw (read_written proposed proposed_fits, read_written voted voted_fits, read_written certified certified_fits, read_written committed committed_fits, read_written releasing releasing_fits)

  decided_row : released reads (decided x) ≡ (x, 1) ∷ []
  unfolding encode certificate_bytes
  decided_row =
      row_with_lem proposed proposed_fits (encode voted ∷ encode certified ∷ encode committed ∷ encode releasing ∷ []) ∙ row_with_lem voted voted_fits (encode certified ∷ encode committed ∷ encode releasing ∷ [])
      ∙ row_with_lem certified certified_fits (encode committed ∷ encode releasing ∷ []) ∙ row_with_lem committed committed_fits (encode releasing ∷ []) ∙ row_with_lem releasing releasing_fits []

-- ---- the run, with contents or without, in which that propose answers as it does without
module _ (lent : Replica) (leaders output x : List ℕ) (c : Contents) (alone : Alone lent leaders) (typed : CountersTyped lent.counters) (name : IsName x)
    (decides : Decides x (propose_call_with by_list (opened_alone lent leaders) output x c)) where
  abbrev r : Replica
  r = opened_alone lent leaders

  abbrev σ : ℕ → Replica
  σ i = r

  abbrev entry : Entry
  entry = record { output = output; step = calls (propose x c) }

  made : makes r entry ≡ decided x
  unfolding makes outcome_of
  made = rw decides.writes (cut_joined (decided x) (framed x name) (length (joined (decided x))) (omega arith))

  gives_it : gives r entry ≡ the_placement x name ∷ []
  unfolding gives outcome_of
  gives_it = rw (decides.reply, made) (decided_give x name)

  only_one : (b : Placement) → In b (placed one itself σ (proposes output x c)) → b ≡ the_placement x name
  only_one b p = go (rw gives_it at p)
    where
      go : In b (the_placement x name ∷ []) → b ≡ the_placement x name
      go (inl h) = h
      go (inr h) = absurd h

  is_opened : Opened one leaders 0 r
  is_opened =
      record {
        lent = lent;
        counters = typed;
        memory = alone.memory;
        store = alone.store;
        work = opened_work lent.memory lent.store one 0 leaders;
        opens = opening_takes lent one 0 leaders (openable lent leaders alone) alone.long alone.many;
        leaves = opening_is lent leaders alone;
      }

  pub run_alone : Releases lent leaders output x c
  unfolding All count says
  run_alone =
      record {
        premises =
            record {
              enough = lit≤ tt;
              numbers = λ i h. omega (arith, eqb→eq i 0 h);
              opened = λ i h. subst (λ (j : ℕ). Opened one leaders j r) (sym (eqb→eq i 0 h)) is_opened;
              on_honest = (tt, tt);
              allowed = ((name, tt), tt);
              earlier = (λ h. tt, tt);
            };
        names = λ a b p q h.
            let α = only_one a p in
            let β = only_one b q in
            (ap (λ (y : Placement). y.parent) (α ∙ sym β), ap (λ (y : Placement). y.height) (α ∙ sym β));
        row = rw made (decided_row x name);
      }

  -- with contents there is one triple alone
  pub one_digest_alone : (s : List ℕ) → c ≡ given s → OneDigest one itself σ (proposes output x c)
  unfolding All takes outcome_of
  one_digest_alone s e =
      record {
        checked = rw (decides.reply, e) (tt, tt);
        one_triple = λ a b p q h. only a (rw (decides.reply, e) at p) ∙ sym (only b (rw (decides.reply, e) at q));
      }
    where
      the_triple : Triple
      the_triple = record { parent = (next_block (begin r) x).parent; height = (next_block (begin r) x).height.0; contents = s }

      only : (a : Triple) → In a (the_triple ∷ []) → a ≡ the_triple
      only a (inl h) = h
      only a (inr h) = absurd h
