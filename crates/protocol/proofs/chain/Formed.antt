-- What a replica forms of what it keeps is backed by the run: a timeout certificate of the kept timeouts, a block certificate of the kept votes, a direct release by
-- kept votes or commits. Assumes nothing.
use Prim.Native.Nat.{ℕ, zero, suc, ◌+◌, ◌^◌, ◌≤◌, ◌<◌}
use mathlib.Core.Bool.{Bool, true, false, cond}
use mathlib.Core.List.{List, [], ◌∷◌, map}
use mathlib.Core.Logic.{◌⊎◌, inl, inr}
use mathlib.Core.Path.{◌≡◌, refl, sym, ap, subst, ◌∙◌}
use native.Mathlib.Nat.{add-zero, zero-add, lt_of_lt_of_le}
use native.Mathlib.Omega.{arith}
use lib.Dec.{T}
use lib.Pow.{pow_mono}
use lib.ListN.{length}
use Rattle.settings.specs.declared.Settings.{Settings}
use Rattle.settings.specs.Quorum.{largest, last_view, block_quorum, timeout_quorum, slow_quorum, fast_quorum}
use Rattle.codec.specs.Names.{name_length, same_bytes}
use Rattle.codec.proofs.Order.{and_true, same_eq}
use Rattle.wire.specs.declared.Timeout.{Timeout}
use Rattle.wire.specs.Fields.{timeout_length}
use Rattle.wire.specs.Encode.{joined, timeout_bytes, timeouts_bytes, block_certificate_bytes, certificate_bytes}
use Rattle.wire.specs.Content.{Certificate, by_block, by_timeouts, certificate_of}
use Rattle.wire.specs.Fit.{IsName, All, TimeoutFits, CertificateFits, TimeoutsProper, CertificateProper}
use Rattle.wire.proofs.Slots.{all_impl}
use Rattle.wire.proofs.Contents.{certificate_back}
use Rattle.certificate.specs.Order.{carried_in}
use Rattle.certificate.specs.Safe.{safe_of_timeouts, safe_certificate}
use Rattle.certificate.specs.Rank.{carried_certificate}
use Rattle.certificate.specs.Good.{signers_needed}
use Rattle.certificate.proofs.Chosen.{chosen_has}
use Rattle.certificate.proofs.Backing.{backing_lt, proper_ascending}
use Rattle.memory.specs.Layout.{vote_row, commit_row, timeout_row}
use Rattle.memory.specs.Kept.{has, kept, kept_count, gathered, backs, tally}
use Rattle.memory.specs.Formed.{formed}
use Rattle.memory.proofs.Bits.{counted}
use Rattle.memory.proofs.Counting.{kept_counted, tally-counted}
use Rattle.memory.proofs.Rows.{tally-signers}
use Rattle.safety.specs.Count.{count}
use Rattle.safety.specs.Rank.{block_of}
use Rattle.safety.specs.Cluster.{Good, Signed, Direct, HighVoted}
use Rattle.safety.specs.Select.{Fine, GoodTimeouts}
use Rattle.safety.proofs.Count.{count_lowest}
use Rattle.safety.proofs.Certificates.{held, safe_timeouts}
use Rattle.safety.proofs.Signers.{ascend}
use Rattle.protocol.specs.Work.{n}
use Rattle.protocol.proofs.call.Certificates.{fits_typed}
use Rattle.protocol.proofs.chain.Records.{proper_few}
use Rattle.protocol.proofs.chain.Invariant.{Name, History, R, size, VoteKept, CommitKept, TimeoutKept}
use Rattle.protocol.proofs.chain.Actions.{size_is}
use Rattle.protocol.proofs.chain.Progress.{TakenAt}

-- two ways of counting are one
counts_same : (t : ℕ → Bool) (k : ℕ) → counted t k ≡ count t k
unfolding counted count
counts_same t zero = refl
counts_same t (suc k) = go (t k) (counts_same t k)
  where
    go : (b : Bool) → counted t k ≡ count t k → cond b (suc (counted t k)) (counted t k) ≡ Rattle.safety.specs.Count.tally b + count t k
    go true e = omega (arith, e)
    go false e = omega (arith, e)

pub is_true : (b : Bool) → T b → b ≡ true
is_true true t = refl
is_true false t = absurd t

pub pow_positive : (k : ℕ) → 0 < 2 ^ k
pow_positive zero = omega arith
pow_positive (suc k) = omega (arith, pow_positive k)

carried_low : (n u low : ℕ) (l : List Timeout) → TimeoutsProper n u low l → All (λ t. (carried_in t).signers < 2 ^ n) l
unfolding TimeoutsProper All carried_certificate
carried_low n u low [] p = tt
carried_low n u low (t ∷ l) p = (p.3.signers, carried_low n u (suc t.sender) l p.4)

module _ (set : Settings) (w : History) (H : HighVoted (R set w)) where
  -- ---- a list of good timeouts, in order
  pub record Timeouts (u low : ℕ) (ts : List Timeout) : Type 0 where
    pub fits : All TimeoutFits ts
    pub proper : TimeoutsProper (size set w) u low ts
    pub fine : All (Fine held (R set w) u) ts

  -- all signers are below n
  safe_signers : (u : ℕ) (ts : List Timeout) → TimeoutsProper (size set w) u 0 ts → (safe_of_timeouts set ts).signers < 2 ^ size set w
  unfolding safe_of_timeouts
  safe_signers u [] p = pow_positive (size set w)
  safe_signers u (t ∷ ts) p =
      chosen_has (λ k. k.signers < 2 ^ size set w) set t ts (carried_low (size set w) u 0 (t ∷ ts) p)
      (all_impl _ _ (t ∷ ts) (λ v q b. backing_lt (size set w) v.high.view.0 v.high.name (t ∷ ts)) (carried_low (size set w) u 0 (t ∷ ts) p))

  pub certificate_signers : (k : Certificate) → CertificateProper (size set w) k → (safe_certificate set k).signers < 2 ^ size set w
  unfolding CertificateProper safe_certificate
  certificate_signers (by_block v x g) p = p
  certificate_signers (by_timeouts v ts) p = safe_signers v ts p

  -- ---- enough of them are a timeout certificate, whose record says them
  module _ (j u : ℕ) (ts : List Timeout) (low : j < 2 ^ 16) (few_all : size set w ≤ largest) (small : u < last_view) (G : Timeouts u 0 ts) (enough : timeout_quorum set ≤ length ts) where
    good_timeouts : GoodTimeouts held (R set w) u ts
    good_timeouts = record { ascend = ascend (size set w) 0 ts (proper_ascending (size set w) u 0 ts G.proper); enough = enough; fine = G.fine }

    certificate_fits : CertificateFits (by_timeouts u ts)
    unfolding CertificateFits
    certificate_fits = (omega (arith, small), omega (arith, few_all, proper_few (size set w) u 0 ts G.proper (omega arith)), G.fits)

    pub timeouts_taken : (r : List ℕ) → r ≡ certificate_bytes j (by_timeouts u ts) → TakenAt set w u r
    unfolding CertificateProper safe_certificate
    timeouts_taken r e =
        let back : certificate_of r ≡ by_timeouts u ts = ap certificate_of e ∙ certificate_back j (by_timeouts u ts) low certificate_fits in
        let c = safe_timeouts (R set w) H u ts good_timeouts in
        record {
          taken = record {
            from = j;
            from_low = low;
            is = rw back e;
            fits = rw back certificate_fits;
            proper = rw back G.proper;
            typed = rw back (fits_typed set (by_timeouts u ts) (omega (arith, few_all)) certificate_fits);
            good = rw back c.safe_good;
            signers = rw back (safe_signers u ts G.proper);
          };
          below = small;
          of_view = rw back refl;
          backed = rw back (inr c);
          safe_le = rw back c.safe_le;
        }

  -- ---- the kept timeouts of a view, as a list
  lower : (u low : ℕ) (ts : List Timeout) → TimeoutsProper (size set w) u (suc low) ts → TimeoutsProper (size set w) u low ts
  unfolding TimeoutsProper
  lower u low [] p = tt
  lower u low (t ∷ ts) p = (p.0, omega (arith, p.1), p.2, p.3, p.4)

  count_eq : (p q : ℕ → Bool) (k : ℕ) → ((j : ℕ) → p j ≡ q j) → count p k ≡ count q k
  unfolding count
  count_eq p q zero h = refl
  count_eq p q (suc k) h = rw (h k, count_eq p q k h)

  module _ (m : List ℕ) (u : ℕ) (fine : (j : ℕ) → j < size set w → has m (timeout_row u) j ≡ true → TimeoutKept set w u j (kept m (timeout_row u) timeout_length j)) where
    abbrev here : ℕ → Bool
    here j = has m (timeout_row u) j

    record Gathered (i k : ℕ) : Type 0 where
      list : List Timeout
      is : gathered m (timeout_row u) timeout_length i k ≡ joined (map timeout_bytes list)
      good : Timeouts u i list
      size_is : length list ≡ count (λ j. here (i + j)) k

    none_good : (i : ℕ) → Timeouts u i []
    unfolding All TimeoutsProper
    none_good i = record { fits = tt; proper = tt; fine = tt }

    more_good : (i : ℕ) (l : List Timeout) → Timeouts u (suc i) l → i < size set w → (K : TimeoutKept set w u i (kept m (timeout_row u) timeout_length i)) → Timeouts u i (K.says ∷ l)
    unfolding All TimeoutsProper
    more_good i l G h K = record {
      fits = (K.fits, G.fits);
      proper = (K.fine.of_view, omega (arith, K.from), omega (arith, K.from, h), K.proper, rw K.from G.proper);
      fine = (K.fine, G.fine);
    }

    count_step : (i k : ℕ) → count (λ j. here (i + j)) (suc k) ≡ Rattle.safety.specs.Count.tally (here i) + count (λ j. here (suc i + j)) k
    count_step i k =
        count_lowest (λ j. here (i + j)) k
        ∙ rw (add-zero i, count_eq (λ j. here (i + suc j)) (λ j. here (suc i + j)) k (λ j. ap here (let e : i + suc j ≡ suc i + j = omega arith in e)))

    gather : (i k : ℕ) → i + k ≤ size set w → Gathered i k
    unfolding gathered joined count
    gather i zero h = record { list = []; is = refl; good = none_good i; size_is = refl }
    gather i (suc k) h = go (here i) refl (gather (suc i) k (omega arith))
      where
        go : (b : Bool) → here i ≡ b → Gathered (suc i) k → Gathered i (suc k)
        go true e G =
            let K = fine i (omega (arith, h)) e in
            record {
              list = K.says ∷ G.list;
              is = rw e (rw (K.is, G.is) refl);
              good = more_good i G.list G.good (omega (arith, h)) K;
              size_is = rw (count_step i k, e) (omega (arith, G.size_is));
            }
        go false e G = record {
          list = G.list;
          is = rw e G.is;
          good = record { fits = G.good.fits; proper = lower u i G.list G.good.proper; fine = G.good.fine };
          size_is = rw (count_step i k, e) (omega (arith, G.size_is));
        }

    -- RULE B's certificate
    pub formed_taken : (j : ℕ) → j < 2 ^ 16 → size set w ≤ largest → u < last_view → timeout_quorum set ≤ kept_count m (timeout_row u) (size set w)
        → TakenAt set w u (formed m u (size set w) j)
    unfolding formed certificate_bytes
    formed_taken j low h small enough =
        let G = gather 0 (size set w) (omega arith) in
        let many : length G.list ≡ kept_count m (timeout_row u) (size set w) =
        G.size_is ∙ count_eq (λ k. here (0 + k)) here (size set w) (λ k. ap here (zero-add k)) ∙ sym (kept_counted m (timeout_row u) (size set w) (omega (arith, h)) ∙ counts_same here (size set w)) in
        timeouts_taken j u G.list low h small G.good (omega (arith, many, enough)) _ (ap (timeouts_bytes j u) G.is)

  -- ---- kept votes and commits for a name: the honest ones among those counted made them
  module _ (m : List ℕ) (row : ℕ) (x : Name) (Did : ℕ → Type 0) (true_of : (j : ℕ) → j < size set w → has m row j ≡ true → kept m row name_length j ≡ x → T (w.honest j) → Did j) where
    backers : ℕ → Bool
    backers = backs m row x

    backers-count : (tally m row x (size set w)).count ≡ count backers (size set w)
    unfolding backers
    backers-count = tally-counted m row x (size set w) ∙ counts_same (backs m row x) (size set w)

    backers_truly : (j : ℕ) → j < size set w → T (w.honest j) → T (backers j) → Did j
    unfolding backers backs
    backers_truly j h t b =
        let p = and_true (has m row j) (same_bytes (kept m row name_length j) x) (is_true _ b) in
        true_of j h p.0 (same_eq (kept m row name_length j) x p.1) t

  module _ (m : List ℕ) (u : ℕ) (x : Name) where
    abbrev VotesTrue : Type 0
    VotesTrue = (j : ℕ) → j < size set w → has m (vote_row u) j ≡ true → VoteKept set w u j (kept m (vote_row u) name_length j)

    abbrev CommitsTrue : Type 0
    CommitsTrue = (j : ℕ) → j < size set w → has m (commit_row u) j ≡ true → CommitKept set w u j (kept m (commit_row u) name_length j)

    vote_did : VotesTrue → (j : ℕ) → j < size set w → has m (vote_row u) j ≡ true → kept m (vote_row u) name_length j ≡ x → T (w.honest j) → w.Voted j u x
    vote_did K j h b e t = subst (λ (y : Name). w.Voted j u y) e ((K j h b).truly t)

    commit_did : CommitsTrue → (j : ℕ) → j < size set w → has m (commit_row u) j ≡ true → kept m (commit_row u) name_length j ≡ x → T (w.honest j) → w.Committed j u x
    commit_did K j h b e t = subst (λ (y : Name). w.Committed j u y) e ((K j h b).truly t)

    votes_signed : VotesTrue → block_quorum set ≤ (tally m (vote_row u) x (size set w)).count → Signed (R set w) (block_of u x)
    unfolding signers_needed
    votes_signed K h = record {
      signers = backers m (vote_row u) x (λ j. w.Voted j u x) (vote_did K);
      enough = omega (arith, h, backers-count m (vote_row u) x (λ j. w.Voted j u x) (vote_did K));
      truly = λ j b t p. backers_truly m (vote_row u) x (λ j. w.Voted j u x) (vote_did K) j b t p;
    }

    -- RULE D's release is direct
    pub direct : VotesTrue → CommitsTrue → (fast_quorum set ≤ (tally m (vote_row u) x (size set w)).count) ⊎ (slow_quorum set ≤ (tally m (commit_row u) x (size set w)).count) → Direct (R set w) u x
    direct K C (inl h) = inl (record {
      voters = backers m (vote_row u) x (λ j. w.Voted j u x) (vote_did K);
      enough = omega (arith, h, backers-count m (vote_row u) x (λ j. w.Voted j u x) (vote_did K));
      truly = λ j b t p. backers_truly m (vote_row u) x (λ j. w.Voted j u x) (vote_did K) j b t p;
    })
    direct K C (inr h) = inr (record {
      committers = backers m (commit_row u) x (λ j. w.Committed j u x) (commit_did C);
      enough = omega (arith, h, backers-count m (commit_row u) x (λ j. w.Committed j u x) (commit_did C));
      truly = λ j b t p. backers_truly m (commit_row u) x (λ j. w.Committed j u x) (commit_did C) j b t p;
    })

    -- RULE C's certificate
    module _ (j : ℕ) (low : j < 2 ^ 16) (few_all : size set w ≤ largest) (small : u < last_view) (name : IsName x) (K : VotesTrue) (h : block_quorum set ≤ (tally m (vote_row u) x (size set w)).count) where
      abbrev g : ℕ
      g = (tally m (vote_row u) x (size set w)).signers

      signers_low : g < 2 ^ size set w
      signers_low = tally-signers m (vote_row u) x (size set w)

      block_fits : CertificateFits (by_block u x g)
      unfolding CertificateFits
      block_fits = (omega (arith, small), name, lt_of_lt_of_le signers_low (pow_mono {i = size set w} {j = 64} (omega (arith, few_all))))

      pub block_taken : TakenAt set w u (block_certificate_bytes j u x g)
      unfolding CertificateProper safe_certificate certificate_bytes
      block_taken =
          let back : certificate_of (block_certificate_bytes j u x g) ≡ by_block u x g = certificate_back j (by_block u x g) low block_fits in
          let good : Good (R set w) (block_of u x) = inr (votes_signed K h) in
          record {
            taken = record {
              from = j;
              from_low = low;
              is = rw back refl;
              fits = rw back block_fits;
              proper = rw back signers_low;
              typed = rw back (fits_typed set (by_block u x g) (omega (arith, few_all)) block_fits);
              good = rw back good;
              signers = rw back signers_low;
            };
            below = small;
            of_view = rw back refl;
            backed = rw back (inl (refl, refl, good));
            safe_le = rw back (omega arith);
          }
