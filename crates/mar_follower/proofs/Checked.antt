-- How far the check of an archive has come, and how it ends.
use Rattle.std.proofs.Common.{Err, Ok, Result, ◌≡◌, ℕ, ◌+◌, ◌-◌, ◌^◌, ◌++◌, List, None, Option, Some, [], ◌∷◌, ap, append_assoc, arith, length, min, refl, subst, sym, ◌∙◌}
use Rattle.std.proofs.lemmas.List.{append-nil, map-append}
use Rattle.mar_follower.specs.Reading.{TakesSegment}
use Rattle.mar_follower.specs.Reports.{Accepts, EndsCheck, HasNoFlaw, IsReport, Refuses, SoFar, TellsArchive, TellsRefusal, passed_of}
use Rattle.mar_follower.specs.Segments.{Committee, HasFlaw, IsArchive, IsRefusedBehind, IsRefusedNext, IsSegment, PassInTurn, Passes, Segment, archive_bytes, count_blocks, lowest_before, lowest_of, segment_blocks, segment_bytes}
use Rattle.mar_follower.specs.declared.check_end.CheckEnd.{CheckEnd}
use Rattle.mar_follower.specs.declared.check_end.CheckEnd.TheVariants.{Memory, Refused}
use Rattle.mar_follower.specs.declared.report.Report.{Report}
use Rattle.mar_follower.specs.declared.why.Why.{Why}
use Rattle.mar_follower.specs.declared.why.Why.TheVariants.{Certificate, Epoch, Grammar, Long, Order, Parent, Payload}
use Rattle.mar_follower.proofs.ArchiveLaws.{archive_falls, passed_are_the_chains}
use Rattle.mar_follower.proofs.OneReading.{not_both, one_archive, one_refusal}

-- REFUSED

refused_next : (committee : Committee) (above : Option ℕ) (s : Segment) (bytes rest : List ℕ) (why : Why) → IsSegment committee.members s
    → bytes ≡ segment_bytes s ++ rest → HasFlaw committee above s why → IsRefusedNext committee above bytes why
refused_next committee above s bytes rest Grammar is taken flaw = absurd flaw
refused_next committee above s bytes rest Epoch is taken flaw = (s, rest, is, taken, flaw)
refused_next committee above s bytes rest Certificate is taken flaw = (s, rest, is, taken, flaw)
refused_next committee above s bytes rest Payload is taken flaw = (s, rest, is, taken, flaw)
refused_next committee above s bytes rest (Parent i) is taken flaw = (s, rest, is, taken, flaw)
refused_next committee above s bytes rest Order is taken flaw = (s, rest, is, taken, flaw)
refused_next committee above s bytes rest Long is taken flaw = absurd flaw

-- the next segment has a flaw
pub refuses_next : (committee : Committee) (bytes rest left : List ℕ) (report : Report) (s : Segment) (why : Why) → SoFar committee bytes rest report
    → TakesSegment committee.members s rest left → HasFlaw committee report.lowest s why → Refuses committee bytes report why
refuses_next committee bytes rest left report s why so_far takes flaw = record {
  segments = so_far.segments;
  behind = record {
    rest = rest;
    spelled = so_far.spelled;
    passed = so_far.passed;
    refused = refused_next committee (lowest_before None so_far.segments) s rest left why takes.is takes.taken (subst (λ above. HasFlaw committee above s why) so_far.report_is.lowest flaw);
  };
  report_is = so_far.report_is;
}

-- PASSED

passed_push : (committee : Committee) (above : Option ℕ) (segments : List Segment) (s : Segment) → PassInTurn committee above segments
    → Passes committee (lowest_before above segments) s → PassInTurn committee above (segments ++ s ∷ [])
passed_push committee above [] s passed passes = (passes, tt)
passed_push committee above (t ∷ segments) s passed passes = (passed.0, passed_push committee (Some (lowest_of t)) segments s passed.1 passes)

bytes_push : (segments : List Segment) (s : Segment) (rest : List ℕ) → archive_bytes (segments ++ s ∷ []) ++ rest ≡ archive_bytes segments ++ (segment_bytes s ++ rest)
bytes_push [] s rest = append_assoc (segment_bytes s) [] rest
bytes_push (t ∷ segments) s rest =
    append_assoc (segment_bytes t) (archive_bytes (segments ++ s ∷ [])) rest ∙ ap (λ bs. segment_bytes t ++ bs) (bytes_push segments s rest) ∙ sym
    (append_assoc (segment_bytes t) (archive_bytes segments) (segment_bytes s ++ rest))

count_push : (segments : List Segment) (s : Segment) → count_blocks (segments ++ s ∷ []) ≡ count_blocks segments + length (segment_blocks s)
count_push [] s = omega arith
count_push (t ∷ segments) s = omega (arith, count_push segments s)

lowest_push : (above : Option ℕ) (segments : List Segment) (s : Segment) → lowest_before above (segments ++ s ∷ []) ≡ Some (lowest_of s)
lowest_push above [] s = refl
lowest_push above (t ∷ segments) s = lowest_push (Some (lowest_of t)) segments s

counted : (a b c d m : ℕ) → a ≡ min c m → d ≡ min (a + b) m → d ≡ min (c + b) m
counted a b c d m was is = omega (arith, was, is)

-- one segment more
pub passes_next : (committee : Committee) (bytes rest left : List ℕ) (report new : Report) (s : Segment) → SoFar committee bytes rest report
    → TakesSegment committee.members s rest left → HasNoFlaw committee report.lowest s
    → new.segments.items ≡ report.segments.items ++ passed_of s ∷ [] → new.blocks ≡ min (report.blocks + length (segment_blocks s)) (2 ^ 64 - 1) → new.lowest ≡ Some
    (lowest_of s) → SoFar committee bytes left new
passes_next committee bytes rest left report new s so_far takes flawless items blocks lowest = record {
  segments = so_far.segments ++ s ∷ [];
  spelled = so_far.spelled ∙ ap (λ bs. archive_bytes so_far.segments ++ bs) takes.taken ∙ sym (bytes_push so_far.segments s left);
  passed = passed_push committee None so_far.segments s so_far.passed (subst (λ above. Passes committee above s) so_far.report_is.lowest (record {
    grammar = takes.is;
    epoch = flawless.epoch;
    certificate = flawless.certificate;
    payload = flawless.payload;
    parents = flawless.parents;
    order = flawless.order;
  }));
  report_is = record {
    passed = items ∙ ap (λ xs. xs ++ passed_of s ∷ []) so_far.report_is.passed ∙ sym (map-append passed_of so_far.segments (s ∷ []));
    counted = counted _ _ _ _ _ so_far.report_is.counted blocks ∙ ap (λ n. min n (2 ^ 64 - 1)) (sym (count_push so_far.segments s));
    lowest = lowest ∙ sym (lowest_push None so_far.segments s);
  };
}

-- ACCEPTED

no_bytes : (rest : List ℕ) → length rest ≡ 0 → rest ≡ []
no_bytes [] none = refl
no_bytes (b ∷ rest) none = absurd (omega (arith, none))

-- nothing is left
pub accepts : (committee : Committee) (bytes rest : List ℕ) (report : Report) → SoFar committee bytes rest report → length rest ≡ 0 → Accepts committee bytes report
accepts committee bytes rest report so_far none = record {
  segments = so_far.segments;
  archive = record { spelled = so_far.spelled ∙ ap (λ bs. archive_bytes so_far.segments ++ bs) (no_bytes rest none) ∙ append-nil (archive_bytes so_far.segments); passed = so_far.passed };
  report_is = so_far.report_is;
  the_chains = passed_are_the_chains committee None so_far.segments so_far.passed;
  falling = archive_falls committee None so_far.segments so_far.passed;
}

-- WHAT IS RIGHT IS TOLD

-- an accepted archive is of the segments that it is read as
pub ok_archive : (committee : Committee) (bytes : List ℕ) (report : Report) → Accepts committee bytes report → (segments : List Segment) → IsArchive committee bytes segments
    → TellsArchive segments (Ok report)
ok_archive committee bytes report accepts segments archive =
    subst (λ (ss : List Segment). IsReport ss report) (one_archive committee bytes accepts.segments segments accepts.archive archive) accepts.report_is

pub ok_refusal : (committee : Committee) (bytes : List ℕ) (report : Report) → Accepts committee bytes report → (segments : List Segment) (why : Why)
    → IsRefusedBehind committee bytes segments why → TellsRefusal segments why (Ok report)
ok_refusal committee bytes report accepts segments why behind = not_both committee bytes accepts.segments segments why accepts.archive behind

pub end_archive : (committee : Committee) (bytes : List ℕ) (end : CheckEnd) → EndsCheck committee bytes end → (segments : List Segment) → IsArchive committee bytes segments
    → TellsArchive segments (Err end)
end_archive committee bytes (Refused report why) refuses segments archive = not_both committee bytes segments refuses.segments why archive refuses.behind
end_archive committee bytes Memory ends segments archive = tt

pub end_refusal : (committee : Committee) (bytes : List ℕ) (end : CheckEnd) → EndsCheck committee bytes end → (segments : List Segment) (why : Why)
    → IsRefusedBehind committee bytes segments why → TellsRefusal segments why (Err end)
end_refusal committee bytes (Refused report why) refuses segments reason behind =
    let one = one_refusal committee bytes refuses.segments segments why reason refuses.behind behind in
    (subst (λ (ss : List Segment). IsReport ss report) one.0 refuses.report_is, one.1)
end_refusal committee bytes Memory ends segments reason behind = tt
