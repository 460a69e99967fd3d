-- The cluster of one: the first timer. The own timeout is sent and kept, rule B forms the certificate of it alone, and view 2 is entered. Assumes nothing.
use Prim.Native.Nat.{ℕ, ◌+◌, ◌%◌, ◌≤◌}
use native.Mathlib.Omega.{arith}
use mathlib.Core.Path.{◌≡◌, refl, sym, ap, subst, ◌∙◌}
use mathlib.Core.Bool.{true, false}
use mathlib.Core.Logic.{⊎_elim}
use mathlib.Core.List.{List, [], ◌∷◌, ◌++◌, append-nil}
use lib.Dec.{lit<, lit≤}
use lib.ListN.{length, length-append}
use Rattle.settings.specs.Answer.{accepts, judge}
use Rattle.settings.specs.Quorum.{replicas, timeout_quorum}
use Rattle.codec.specs.Names.{zero_name, less_bytes}
use Rattle.codec.proofs.Order.{which}
use Rattle.wire.specs.Fields.{timeout_length}
use Rattle.wire.specs.Content.{Certificate, by_timeouts, certificate_of}
use Rattle.wire.specs.Encode.{timeout_bytes, timeouts_bytes, certificate_bytes, joined}
use Rattle.wire.specs.Fit.{All, TimeoutFits, CertificateFits}
use Rattle.wire.proofs.Contents.{certificate_back}
use Rattle.wire.proofs.Lengths.{length_timeout, length_timeouts}
use Rattle.certificate.specs.Rank.{outranks, adopted, highest, carried_certificate}
use Rattle.certificate.specs.Safe.{each, built_by, safe_of_timeouts, safe_certificate}
use Rattle.blocks.specs.declared.Block.{Block}
use Rattle.memory.specs.Layout.{entry_room, timeout_row, settings_of, own_of, with_entry}
use Rattle.memory.specs.Kept.{has, keep, gathered, kept_count}
use Rattle.memory.specs.Window.{entered}
use Rattle.memory.specs.Formed.{formed}
use Rattle.memory.proofs.Apart.{Table, timeouts, row_of, rows_of, size_of, width_of, row_fits, row_head}
use Rattle.memory.proofs.Bits.{counted}
use Rattle.memory.proofs.Clearing.{has_same}
use Rattle.memory.proofs.Counting.{kept_counted}
use Rattle.memory.proofs.Entering.{first_of, Windowed, entered_kept, entered_none, entered_head}
use Rattle.memory.proofs.Header.{same_header, entry_settings, entry_behind}
use Rattle.memory.proofs.Keeping.{has-keep, kept-keep}
use Rattle.counters.specs.Counters.{opened, certificate_of as certificate_from, signed_of, locks_of, with_locks, adopting, entering, timing}
use Rattle.protocol.specs.Work.{Work, view, n, own, adopt, enter_by, keep_timeout, send_timeout, own_timeout}
use Rattle.protocol.specs.Refusals.{output_length, region_rules, timer_rules}
use Rattle.protocol.specs.Events.{progress}
use Rattle.protocol.specs.Applies.{NoA, Done, Turn, Turns, turn, rest, by_b, run_b}
use Rattle.protocol.specs.Calls.{Replica, begin, timer_core, outcome, timer_call}
use Rattle.protocol.specs.ClusterOfOne.{one, own_timeout as the_timeout, timed_out_records, Enters}
use Rattle.protocol.proofs.call.Typing.{zero_is_name}
use Rattle.protocol.proofs.call.Regular.{Regular, Still}
use Rattle.protocol.proofs.call.Actions.{timeout_regular}
use Rattle.protocol.proofs.call.Regions.{judge_past}
use Rattle.protocol.proofs.call.OneCall.{regular_regions}
use Rattle.protocol.proofs.loop.Advance.{timeout_window, in_timeouts, none_kept}
use Rattle.protocol.proofs.loop.Loop.{loop_ends}
use Rattle.protocol.proofs.chain.Call.{written_out}
use Rattle.protocol.proofs.chain.Records.{with_sender_lem}
use Rattle.protocol.proofs.example.Rows.{nobody, rows_none, stays}
use Rattle.protocol.proofs.example.Applies.{Facts, no_a_lem, no_b_lem, no_c_few, no_d_few}
use Rattle.protocol.proofs.example.ClusterOfOne.Start.{opened_over, Start}

module _ (m : List ℕ) (st : List Block) (S : Start m st) (output : List ℕ) (room : output_length ≤ length output) where
  abbrev r : Replica
  r = opened_over m st

  -- ---- the own timeout
  abbrev sent : List ℕ
  sent = timeout_bytes the_timeout

  fits : TimeoutFits the_timeout
  fits = record { sender = lit< tt; view = lit< tt; high_view = lit< tt; high_name = zero_is_name; kind = lit< tt; carried_view = lit< tt; carried_name = zero_is_name; signers = lit< tt }

  abbrev m₁ : List ℕ
  m₁ = keep m (timeout_row 1) timeout_length 0 sent

  abbrev W₁ : Work
  W₁ = record { counters = timing opened (view 1); memory = m₁; store = st; out = sent }

  event : send_timeout 1 (begin r) ≡ W₁
  unfolding send_timeout keep_timeout own_timeout opened highest outranks less_bytes locks_of certificate_from
  event = rw S.own

  next : Regular W₁ × Still (begin r) W₁
  next = subst (λ (W : Work). Regular W × Still (begin r) W) event (timeout_regular (begin r) 1 (lit< tt) S.regular)

  settings₁ : settings_of m₁ ≡ one
  settings₁ = next.1.settings ∙ S.settings

  own₁ : own_of m₁ ≡ 0
  own₁ = next.1.own ∙ S.own

  long : length sent ≡ timeout_length
  long = length_timeout the_timeout fits

  row_long : timeout_row 1 + size_of timeouts ≤ length m
  row_long = omega (arith, row_fits timeouts 1, S.regular.memory_long)

  has_own : has m₁ (timeout_row 1) 0 ≡ true
  has_own = has-keep m (timeout_row 1) timeout_length 0 sent S.regular.typed.memory row_long long (lit< tt) (S.none timeouts 1 0)

  -- ---- the certificate that is formed of it alone, and view 2
  abbrev of_own : Certificate
  of_own = by_timeouts 1 (the_timeout ∷ [])

  abbrev certified : List ℕ
  certified = certificate_bytes 0 of_own

  forms : formed m₁ 1 (n W₁) (own W₁) ≡ certified
  unfolding formed gathered certificate_bytes joined
  forms = rw (settings₁, own₁, has_own, kept-keep m (timeout_row 1) timeout_length 0 sent S.regular.typed.memory row_long long (lit< tt) (S.none timeouts 1 0))

  reads : certificate_of certified ≡ of_own
  unfolding CertificateFits All
  reads = certificate_back 0 of_own (lit< tt) (lit< tt, lit< tt, (fits, tt))

  abbrev m₂ : List ℕ
  m₂ = with_entry (entered m₁ 1 2) certified

  abbrev W₂ : Work
  W₂ = record { counters = entering (timing opened (view 1)) (view 2); memory = m₂; store = st; out = sent ++ certified }

  enters : run_b 1 W₁ ≡ W₂
  unfolding progress adopt enter_by opened timing adopting with_locks adopted outranks locks_of certificate_from signed_of safe_certificate safe_of_timeouts each built_by carried_certificate less_bytes
  enters = rw (forms, reads, own₁, with_sender_lem 0 0 of_own)

  short : length certified ≤ entry_room
  unfolding certificate_bytes joined
  short = omega (arith, length_timeouts 0 1 (sent ++ []), length-append sent [], long)

  -- no timeout of views 2 to 4 is kept, no vote and no commit; and so nothing in view 2's windows
  none₁ : (t : Table) (v j : ℕ) → first_of t 2 ≤ v → v ≤ 4 → has m₁ (row_of t v) j ≡ false
  none₁ t v j a b =
      let off : t ≡ timeouts → v % rows_of t ≡ 1 % rows_of t → ⊥ =
      λ z y. let p : 2 ≤ v = subst (λ (u : Table). first_of u 2 ≤ v) z a in let q : v % 4 ≡ 1 = subst (λ (u : Table). v % rows_of u ≡ 1 % rows_of u) z y in omega arith in
      has_same m m₁ (row_of t v) (width_of t) (stays timeouts m 0 sent S.regular.typed.memory S.regular.memory_long long (lit< tt) (S.none timeouts 1 0) t v off) j ∙ S.none t v j

  none₂ : (t : Table) (v j : ℕ) → first_of t 2 ≤ v → v ≤ 5 → has m₂ (row_of t v) j ≡ false
  none₂ t v j a b =
      let w : Windowed t 2 v = record { first = a; last = b } in
      has_same (entered m₁ 1 2) m₂ (row_of t v) (width_of t) (entry_behind (entered m₁ 1 2) certified short (row_of t v) (size_of t) (row_head t v)) j
      ∙ ⊎_elim
      (λ l. has_same m₁ (entered m₁ 1 2) (row_of t v) (width_of t) (entered_kept m₁ 1 2 t v w (omega arith)) j ∙ none₁ t v j a (omega arith))
      (λ l. entered_none m₁ 1 2 next.0.memory_long t v w (⊎_elim (λ e. omega arith) (λ k. omega arith) l) j) (which v 5)

  facts₂ : Facts one zero_name 2 nobody nobody W₂
  unfolding entering
  facts₂ =
      record {
        settings = entry_settings (entered m₁ 1 2) certified ∙ (same_header m₁ (entered m₁ 1 2) (entered_head m₁ 1 2)).settings ∙ settings₁;
        small = lit≤ tt;
        view = refl;
        low = lit≤ tt;
        high = lit≤ tt;
        rows = rows_none zero_name m₂ 2 (lit≤ tt) none₂;
      }

  done₂ : Done W₂
  unfolding counted
  done₂ = record { no_a = no_a_lem facts₂; no_b = no_b_lem facts₂; no_c = no_c_few facts₂ (lit< tt); no_d = no_d_few facts₂ (lit< tt) (lit< tt) }

  -- ---- one turn, by B: A asks for a timeout of a later view
  one_kept : kept_count m₁ (timeout_row 1) (n W₁) ≡ 1
  unfolding counted
  one_kept = rw settings₁ (kept_counted m₁ (timeout_row 1) 1 (lit≤ tt) ∙ rw has_own)

  no_others : NoA W₁
  unfolding timing opened
  no_others w a =
      let i = timeout_window 1 w a.window in
      omega (arith, a.enough, none_kept m₁ (timeout_row w) (n W₁) (omega (arith, ap replicas settings₁)) (λ j. none₁ timeouts w j a.untimed i.to))

  turns : Turns W₁ W₂
  unfolding timing opened
  turns =
      turn
      (subst (Turn W₁) enters
      (by_b 1 no_others
      (record {
        here = record { window = in_timeouts 1 1 (record { from = lit≤ tt; to = lit≤ tt; below = lit< tt }); enough = omega (arith, one_kept, ap timeout_quorum settings₁) };
        no_lower = λ v l a. omega (arith, (timeout_window 1 v a.window).from);
      })))
      rest

  core : timer_call r output 1 ≡ outcome r output (accepts W₂)
  unfolding timer_call timer_core timer_rules judge opened
  core =
      ap (outcome r output)
      (judge_past _ (region_rules (begin r) (length output)) (timer_rules (begin r) 1) (regular_regions (begin r) (length output) S.regular room)
      ∙ rw event (ap accepts (sym (loop_ends W₁ W₂ next.0 turns done₂))))

  all_written : W₂.out ≡ joined timed_out_records
  unfolding certificate_bytes joined
  all_written = rw append-nil (ap (λ (s : List ℕ). sent ++ s) (sym (append-nil (timeouts_bytes 0 1 sent))))

  size : length (joined timed_out_records) ≡ 248
  unfolding joined
  size = simp (length-append, length_timeouts, long)

  pub enters_alone : Enters (timer_call r output 1)
  unfolding outcome entering timing
  enters_alone = rw core (record { reply = ap (λ (s : List ℕ). accepts (length s)) all_written ∙ ap accepts size; writes = written_out r output W₂ ∙ all_written; view = refl; timed = refl })
