-- How a script is read, line by line.
use Rattle.std.proofs.Common.{Err, List, None, Ok, Option, Some, [], ap, append_assoc, arith, codes, inl, inr, length, length-append, nat_lt, refl, subst, sym, ℕ, ◌++◌, ◌+◌, ◌<◌, ◌∙◌, ◌∷◌, ◌≡◌, ◌≤◌}
use Rattle.std.proofs.lemmas.Bool.{cond_both, ltb-false, ltb-true}
use Rattle.std.proofs.lemmas.List.{append-nil, flat_map_more}
use Rattle.std.proofs.lemmas.List.Elements.{All-from_recursion, All-push, recursion_from_All}
use Rattle.std.proofs.lemmas.Option.{IfSome_then}
use Rattle.std.specs.List.{AllByRecursion}
use Rattle.std.specs.Prelude.{IfSome, IsErrOf, Result, Vec}
use Rattle.std.specs.declared.alloc.Global.{Global}
use Rattle.mar_script.specs.Endings.{IsWritersEnd}
use Rattle.mar_script.specs.Lines.{Spells, plain_line}
use Rattle.mar_script.specs.Reading.{ReadsTo, Reads, StopsWith, TakesFirst, TakesNext, ending_of, missing_status, refused_at, refused_status}
use Rattle.mar_script.specs.Refused.{HasFirstWord, IsRefused, IsUnended, max_line, max_lines}
use Rattle.mar_script.specs.Run.{IsConfigBytes, IsLineBytes, IsShownAs, Status, StopsAt, out_of_memory, outside_grammar, read_to_end, write_failed}
use Rattle.mar_script.specs.Script.{IsLine, IsSettings, Line, Settings, line_bytes, script_bytes, settings_bytes}
use Rattle.mar_script.specs.Streams.{Gives, IsLineOf, TakesLine}
use Rattle.mar_script.specs.Words.{IsWithheld}
use Rattle.mar_script.specs.declared.line.Line.{Line as LineCode}
use Rattle.mar_script.specs.declared.reader.LineError.{LineError}
use Rattle.mar_script.specs.declared.reader.LineError.TheVariants as missing
use Rattle.mar_script.specs.declared.status.Status.{Status as StatusCode}
use Rattle.mar_script.specs.declared.status.Status.TheVariants as status
use Rattle.mar_script.specs.declared.status.Why.{Why}
use Rattle.mar_script.specs.declared.status.Why.TheVariants as why
use Rattle.mar_script.specs.declared.words.ParseError.{ParseError}
use Rattle.mar_script.specs.declared.words.ParseError.TheVariants as refused
use Rattle.mar_script.proofs.Streams.{gives_more}

-- what a source tells, if it tells something
pub shown : (now : Option (List ℕ)) → (left : List ℕ) × IsShownAs now left
shown None = ([], tt)
shown (Some bytes) = (bytes, refl)

-- WHY THERE IS NO LINE

some_byte : (bytes line still : List ℕ) → bytes ≡ line ++ 10 ∷ still → 0 < length bytes
some_byte bytes line still cut = omega (arith, ap length cut, length-append line (10 ∷ still))

-- a line that is refused, unless it is one too many
at_limit : (k : ℕ) (P : List ℕ → Type 0) (bytes : List ℕ) (now : Option (List ℕ)) (left : List ℕ) (reason : Why) → k ≤ max_lines + 1 → 0 < length bytes → IsShownAs now left → (k ≤ max_lines → IsRefused k P bytes left reason) → IfSome (ending_of (refused_at k reason)) (StopsWith k P bytes now)
at_limit k P bytes now left reason within some still refuse =
    cond_both (nat_lt max_lines k) why.TooMany reason (λ told. StopsWith k P bytes now (outside_grammar k told))
    (λ past. record { left = left; still = still; stops = (refl, (omega (arith, within, ltb-true max_lines k past), some)) })
    (λ few. record { left = left; still = still; stops = (refl, refuse (ltb-false max_lines k few)) })

stops_missing : (k : ℕ) (P : List ℕ → Type 0) (bytes still : List ℕ) (now : Option (List ℕ)) (e : LineError) → k ≤ max_lines + 1 → IsLineOf bytes (Err e) still now → IfSome (ending_of (missing_status k e)) (StopsWith k P bytes now)
stops_missing k P bytes still now missing.Unended within line = at_limit k P bytes now [] why.Unended within line.1 line.4 (λ few. (few, line.1, line.2, line.3, refl))
stops_missing k P bytes still now missing.TooLong within line = at_limit k P bytes now (shown now).0 why.TooLong within (omega (arith, line.1)) (shown now).1 (λ few. (few, line.1, line.2))
stops_missing k P bytes still now missing.ReadFault within line = record { left = (shown now).0; still = (shown now).1; stops = line.1 }
stops_missing k P bytes still now missing.Memory within line = record { left = (shown now).0; still = (shown now).1; stops = tt }

stops_refused : (k : ℕ) (P : List ℕ → Type 0) (bytes line still : List ℕ) (now : Option (List ℕ)) (e : ParseError) → k ≤ max_lines + 1 → bytes ≡ line ++ 10 ∷ still → length line ≤ max_line → IsUnended line → (k ≡ 1 → HasFirstWord (codes "config") line) → (P (line ++ 10 ∷ []) → IsWithheld e)
    → IfSome (ending_of (refused_status k e)) (StopsWith k P bytes now)
stops_refused k P bytes line still now refused.Grammar within cut short none first only =
    at_limit k P bytes now (shown now).0 why.Grammar within (some_byte bytes line still cut) (shown now).1
    (λ few. (few, record { line = line; behind = still; split = cut; unended = none; short = short; is = (first, only) }))
stops_refused k P bytes line still now refused.Memory within cut short none first only = record { left = (shown now).0; still = (shown now).1; stops = tt }

-- THE FIRST LINE

pub first_missing : (before : Option (List ℕ)) (pending : List ℕ) (e : LineError) (code : StatusCode) (still : List ℕ) (after : Option (List ℕ)) → TakesLine before pending (Err e) still after → code ≡ missing_status 1 e → TakesFirst before pending (Err code) still after
first_missing before pending e code still after t told =
    record { read = t.read; gives = t.gives; first = subst (λ (c : StatusCode). IfSome (ending_of c) (StopsWith 1 IsConfigBytes (pending ++ t.read) after)) (sym told) (stops_missing 1 IsConfigBytes _ still after e (omega arith) t.line) }

pub first_refused : (before : Option (List ℕ)) (pending : List ℕ) (line : Vec ℕ Global) (e : ParseError) (code : StatusCode) (still : List ℕ) (after : Option (List ℕ)) → TakesLine before pending (Ok (Some line)) still after → HasFirstWord (codes "config") line.items
    → ((s : Settings) → IsSettings s → line.items ++ 10 ∷ [] ≡ settings_bytes s → IsWithheld e) → code ≡ refused_status 1 e → TakesFirst before pending (Err code) still after
first_refused before pending line e code still after t word only told = record {
  read = t.read;
  gives = t.gives;
  first = subst (λ (c : StatusCode). IfSome (ending_of c) (StopsWith 1 IsConfigBytes (pending ++ t.read) after)) (sym told)
      (stops_refused 1 IsConfigBytes _ line.items still after e (omega arith) t.line.0 t.line.1 t.line.2 (λ first. word) (λ (s, is, same). only s is same));
}

pub nothing_first : (before : Option (List ℕ)) (pending still : List ℕ) (after : Option (List ℕ)) → TakesLine before pending (Ok None) still after → TakesFirst before pending (Err (status.Script 1 why.NoConfig)) still after
nothing_first before pending still after t = record { read = t.read; gives = t.gives; first = record { left = []; still = t.line.2; stops = (refl, (refl, inl (t.line.0, refl))) } }

pub another_word : (before : Option (List ℕ)) (pending : List ℕ) (line : Vec ℕ Global) (still : List ℕ) (after : Option (List ℕ)) → TakesLine before pending (Ok (Some line)) still after → (HasFirstWord (codes "config") line.items → ⊥) → TakesFirst before pending (Err (status.Script 1 why.NoConfig)) still after
another_word before pending line still after t other = record {
  read = t.read;
  gives = t.gives;
  first = record {
    left = (shown after).0;
    still = (shown after).1;
    stops = (refl, (refl, inr (record { line = line.items; behind = still; split = t.line.0; unended = t.line.2; short = t.line.1; is = other })));
  };
}

pub first_read : (before : Option (List ℕ)) (pending : List ℕ) (line : Vec ℕ Global) (s : Settings) (still : List ℕ) (after : Option (List ℕ)) → TakesLine before pending (Ok (Some line)) still after → line.items ++ 10 ∷ [] ≡ settings_bytes s → TakesFirst before pending (Ok s) still after
first_read before pending line s still after t is = record { read = t.read; gives = t.gives; first = t.line.0 ∙ sym (append_assoc line.items (10 ∷ []) still) ∙ ap (λ xs. xs ++ still) is }

-- WHAT IS NO FAULT OF THE SOURCE

pub read_well : {T E : Type 0} (x : T) (e : E) → Ok x ≡ Err e → ⊥
read_well x e is = cc

pub script_no_fault : {T : Type 0} (result : Result T StatusCode) (n : ℕ) (reason : Why) → result ≡ Err (status.Script n reason) → result ≡ Err status.ReadFault → ⊥
script_no_fault result n reason told is = cc

pub no_fault_told : {T : Type 0} (result : Result T StatusCode) (code : StatusCode) → (code ≡ status.ReadFault → ⊥) → result ≡ Err code → result ≡ Err status.ReadFault → ⊥
no_fault_told result code none told is = let same : code ≡ status.ReadFault = cc in none same

pub missing_fault : {T U : Type 0} (result : Result T StatusCode) (missed : Result U LineError) (code : StatusCode) (e : LineError) (P : Type 0) → (code ≡ status.ReadFault → e ≡ missing.ReadFault) → (missed ≡ Err missing.ReadFault → P) → missed ≡ Err e → result ≡ Err code → result ≡ Err status.ReadFault → P
missing_fault result missed code e P same rose was told is = let fault : code ≡ status.ReadFault = cc in rose (was ∙ ap Err (same fault))

-- A LATER LINE

pub next_read : (n k : ℕ) (before : Option (List ℕ)) (pending : List ℕ) (line : Vec ℕ Global) (l : LineCode) (still : List ℕ) (after : Option (List ℕ)) → TakesLine before pending (Ok (Some line)) still after → Spells n line.items (plain_line l) → k ≤ max_lines
    → TakesNext n k before pending (Ok (Some l)) still after
next_read n k before pending line l still after t s few = record {
  read = t.read;
  gives = t.gives;
  next = (
    t.line.0 ∙ sym (append_assoc line.items (10 ∷ []) still) ∙ ap (λ xs. xs ++ still) s.spelled,
    record { built = s.built; values = s.values; short = omega (arith, ap length s.spelled, length-append line.items (10 ∷ []), t.line.1) },
    few,
  );
}

pub next_missing : (n k : ℕ) (before : Option (List ℕ)) (pending : List ℕ) (e : LineError) (code : StatusCode) (still : List ℕ) (after : Option (List ℕ)) → k ≤ max_lines + 1 → TakesLine before pending (Err e) still after → code ≡ missing_status k e
    → TakesNext n k before pending (Err code) still after
next_missing n k before pending e code still after within t told = record {
  read = t.read;
  gives = t.gives;
  next = subst (λ (c : StatusCode). IfSome (ending_of c) (StopsWith k (IsLineBytes n) (pending ++ t.read) after)) (sym told) (stops_missing k (IsLineBytes n) _ still after e within t.line);
}

pub next_refused : (n k : ℕ) (before : Option (List ℕ)) (pending : List ℕ) (line : Vec ℕ Global) (e : ParseError) (code : StatusCode) (still : List ℕ) (after : Option (List ℕ)) → 1 < k → k ≤ max_lines → TakesLine before pending (Ok (Some line)) still after
    → ((l : Line) → Spells n line.items l → IsWithheld e) → code ≡ refused_status k e → TakesNext n k before pending (Err code) still after
next_refused n k before pending line e code still after later few t only told = record {
  read = t.read;
  gives = t.gives;
  next = subst (λ (c : StatusCode). IfSome (ending_of c) (StopsWith k (IsLineBytes n) (pending ++ t.read) after)) (sym told)
      (stops_refused k (IsLineBytes n) _ line.items still after e (omega (arith, few)) t.line.0 t.line.1 t.line.2 (λ first. absurd (omega (arith, first, later))) (λ (l, is, same). only l (record { built = is.built; values = is.values; spelled = same })));
}

pub one_too_many : (n k : ℕ) (before : Option (List ℕ)) (pending : List ℕ) (line : Vec ℕ Global) (code : StatusCode) (still : List ℕ) (after : Option (List ℕ)) → TakesLine before pending (Ok (Some line)) still after → k ≡ max_lines + 1 → code ≡ refused_at k why.TooMany → TakesNext n k before pending (Err code) still after
one_too_many n k before pending line code still after t many told = record {
  read = t.read;
  gives = t.gives;
  next = subst (λ (c : StatusCode). IfSome (ending_of c) (StopsWith k (IsLineBytes n) (pending ++ t.read) after)) (sym told)
      (at_limit k (IsLineBytes n) _ after (shown after).0 why.TooMany (omega (arith, many)) (some_byte _ line.items still t.line.0) (shown after).1 (λ few. absurd (omega (arith, few, many))));
}

pub nothing_next : (n k : ℕ) (before : Option (List ℕ)) (pending still : List ℕ) (after : Option (List ℕ)) → TakesLine before pending (Ok None) still after → TakesNext n k before pending (Ok None) still after
nothing_next n k before pending still after t = record { read = t.read; gives = t.gives; next = (t.line.0, t.line.2) }

-- a line that the source failed to give ends the run by that fault
pub fault_missing : {T U : Type 0} (n : ℕ) (e : LineError) (code : StatusCode) → code ≡ missing_status n e → IsErrOf {T = T} (Err e) missing.ReadFault → IsErrOf {T = U} (Err code) status.ReadFault
fault_missing {T} {U} n e code told is = ap (λ c. Err c) (told ∙ ap (missing_status n) (inside is))
  where
    inside : ◌≡◌ {A = Result T LineError} (Err e) (Err missing.ReadFault) → e ≡ missing.ReadFault
    inside same = cc

-- ALL LINES

-- what was taken since the source stood so: the settings and these lines, and what is pending
pub record SoFar (source : Option (List ℕ)) (s : Settings) (pending : List ℕ) (now : Option (List ℕ)) (number : ℕ) : Type 0 where
  pub taken : List ℕ
  pub lines : List Line
  pub gives : Gives source taken now
  pub spelled : taken ≡ script_bytes s lines ++ pending
  pub are : AllByRecursion (IsLine s.members) lines
  pub count : number ≡ length lines + 2
  pub few : length lines < max_lines

unfoldable pub begins : (source : Option (List ℕ)) (s : Settings) (pending : List ℕ) (now : Option (List ℕ)) (taken : List ℕ) → Gives source taken now → taken ≡ settings_bytes s ++ pending → SoFar source s pending now 2
begins source s pending now taken gives is =
    record { taken = taken; lines = []; gives = gives; spelled = is ∙ ap (λ xs. xs ++ pending) (sym (append-nil (settings_bytes s))); are = tt; count = refl; few = omega arith }

unfoldable pub goes_on : (source : Option (List ℕ)) (s : Settings) (pending : List ℕ) (now : Option (List ℕ)) (number : ℕ) (l : LineCode) (still : List ℕ) (after : Option (List ℕ)) → SoFar source s pending now number → TakesNext s.members number now pending (Ok (Some l)) still after → SoFar source s still after (number + 1)
goes_on source s pending now number l still after so t = record {
  taken = so.taken ++ t.read;
  lines = so.lines ++ plain_line l ∷ [];
  gives = gives_more source now after so.taken t.read so.gives t.gives;
  spelled =
      ap (λ xs. xs ++ t.read) so.spelled ∙ append_assoc (script_bytes s so.lines) pending t.read ∙ ap (λ xs. script_bytes s so.lines ++ xs) t.next.0
      ∙ sym (append_assoc (script_bytes s so.lines) (line_bytes (plain_line l)) still) ∙ ap (λ xs. xs ++ still) (flat_map_more line_bytes (settings_bytes s) so.lines (plain_line l));
  are = recursion_from_All (IsLine s.members) _ (All-push (IsLine s.members) so.lines (plain_line l) (All-from_recursion (IsLine s.members) so.lines so.are) t.next.1);
  count = omega (arith, so.count, length-append so.lines (plain_line l ∷ []));
  few = omega (arith, so.count, t.next.2, length-append so.lines (plain_line l ∷ []));
}

-- where nothing was read but what couldn't be done
pub ends_first : (source : Option (List ℕ)) (code : StatusCode) (still : List ℕ) (after : Option (List ℕ)) → TakesFirst source [] (Err code) still after → Reads source after code
ends_first source code still after t = IfSome_then (ending_of code) {P = StopsWith 1 IsConfigBytes t.read after} {Q = ReadsTo source after} t.first (λ status stops. record {
  taken = t.read;
  left = stops.left;
  told = t.gives stops.left stops.still;
  still = stops.still;
  reading = record { settings = None; lines = []; rest = t.read; reads = (refl, refl, stops.stops) };
})

unfoldable pub ends : (source : Option (List ℕ)) (s : Settings) (pending : List ℕ) (now : Option (List ℕ)) (number : ℕ) (read : List ℕ) (after : Option (List ℕ)) (ending : Status) → IsSettings s → SoFar source s pending now number → Gives now read after → StopsWith number (IsLineBytes s.members) (pending ++ read) after ending
    → ReadsTo source after ending
ends source s pending now number read after ending valid so gives stops = record {
  taken = so.taken ++ read;
  left = stops.left;
  told = gives_more source now after so.taken read so.gives gives stops.left stops.still;
  still = stops.still;
  reading = record {
    settings = Some s;
    lines = so.lines;
    rest = pending ++ read;
    reads = (
      ap (λ xs. xs ++ read) so.spelled ∙ append_assoc (script_bytes s so.lines) pending read,
      valid,
      so.are,
      so.few,
      subst (λ (k : ℕ). StopsAt k (IsLineBytes s.members) (pending ++ read) stops.left ending) so.count stops.stops,
    );
  };
}

pub ends_next : (source : Option (List ℕ)) (s : Settings) (pending : List ℕ) (now : Option (List ℕ)) (number : ℕ) (code : StatusCode) (still : List ℕ) (after : Option (List ℕ)) → IsSettings s → SoFar source s pending now number → TakesNext s.members number now pending (Err code) still after → Reads source after code
ends_next source s pending now number code still after valid so t =
    IfSome_then (ending_of code) {P = StopsWith number (IsLineBytes s.members) (pending ++ t.read) after} {Q = ReadsTo source after} t.next (λ ending stops. ends source s pending now number t.read after ending valid so t.gives stops)

pub ends_ok : (source : Option (List ℕ)) (s : Settings) (pending : List ℕ) (now : Option (List ℕ)) (number : ℕ) (still : List ℕ) (after : Option (List ℕ)) → IsSettings s → SoFar source s pending now number → TakesNext s.members number now pending (Ok None) still after → Reads source after status.Ok
ends_ok source s pending now number still after valid so t =
    ends source s pending now number t.read after read_to_end valid so t.gives (record { left = []; still = t.next.1; stops = (omega (arith, so.count), t.next.0, refl) })

-- where a line was done and its text couldn't be written
pub ends_unwritten : (source : Option (List ℕ)) (s : Settings) (pending : List ℕ) (now : Option (List ℕ)) (number : ℕ) (code : StatusCode) → IsSettings s → SoFar source s pending now number → IsWritersEnd code → Reads source now code
ends_unwritten source s pending now number status.Memory valid so end =
    ends source s pending now number [] now out_of_memory valid so (λ rest h. h) (record { left = (shown now).0; still = (shown now).1; stops = tt })
ends_unwritten source s pending now number status.WriteFault valid so end =
    ends source s pending now number [] now write_failed valid so (λ rest h. h) (record { left = (shown now).0; still = (shown now).1; stops = omega (arith, so.count) })
ends_unwritten source s pending now number (status.Script n reason) valid so end = absurd end
ends_unwritten source s pending now number status.ReadFault valid so end = absurd end
ends_unwritten source s pending now number status.Ok valid so end = absurd end
ends_unwritten source s pending now number status.Usage valid so end = absurd end

-- so many lines can't have been read
pub ends_never : (source : Option (List ℕ)) (s : Settings) (pending : List ℕ) (now : Option (List ℕ)) (number : ℕ) (code : StatusCode) → SoFar source s pending now number → max_lines + 1 < number → Reads source now code
ends_never source s pending now number code so past = absurd (omega (arith, so.count, so.few))
