-- How the next line is found in what is pending and what is read.
use Rattle.std.proofs.Common.{List, None, Option, Result, Some, Ok, Err, [], append_assoc, arith, drop, length, length-drop, length-take, refl, sym, subst, take, ℕ, ◌∙◌, ◌∷◌, ◌++◌, ◌+◌, ◌-◌, ◌<◌, ◌≡◌, ◌≤◌, ◌⊎◌, inl, inr, ap}
use Rattle.std.specs.Prelude.{Contains, IfErr, IfOk, IfSome, OnErr, Vec}
use Rattle.std.specs.declared.alloc.Global.{Global}
use Rattle.std.proofs.lemmas.List.{append-nil, drop-drop, take-append-drop}
use Rattle.std.proofs.lemmas.List.Elements.{Contains-append_cases, Contains-append_left}
use Rattle.std.proofs.Math.Seq.{take-add, take-append_seam}
use Rattle.std.proofs.Math.ListN.{length-append}
use Rattle.mar_types.specs.Causes.{Rose}
use Rattle.mar_script.specs.Run.{IsShownAs}
use Rattle.mar_script.specs.Refused.{IsUnended}
use Rattle.mar_script.specs.Streams.{EndsAt, Gives, TakesLine}
use Rattle.mar_script.specs.declared.reader.LineError.{LineError}
use Rattle.mar_script.specs.declared.reader.LineError.TheVariants.{Memory, ReadFault, TooLong, Unended}
use Rattle.mar_script.proofs.Streams.{gives_more}

pub unended_nothing : IsUnended []
unended_nothing = λ h. let small : h.0 < 0 = h.1 in absurd (omega (arith, small))

pub unended_append : (xs ys : List ℕ) → IsUnended xs → IsUnended ys → IsUnended (xs ++ ys)
unended_append xs ys p q = λ h. elim (Contains-append_cases xs ys 10 h) [ inl a ↦ p a | inr b ↦ q b ]

pub unended_whole : (n : ℕ) (xs : List ℕ) → IsUnended (take n xs) → IsUnended (drop n xs) → IsUnended xs
unended_whole n xs p q = subst (λ (l : List ℕ). IsUnended l) (take-append-drop n xs) (unended_append (take n xs) (drop n xs) p q)

pub unended_take : (n : ℕ) (xs : List ℕ) → IsUnended xs → IsUnended (take n xs)
unended_take n xs p = λ h. p (subst (λ (l : List ℕ). Contains l 10) (take-append-drop n xs) (Contains-append_left (take n xs) (drop n xs) 10 h))

pub unended_front : (k m : ℕ) (xs : List ℕ) → k ≤ m → IsUnended (take m xs) → IsUnended (take k xs)
unended_front k m xs le p =
    let split : take m xs ≡ take k xs ++ take (m - k) (drop k xs) = (let e : k + (m - k) ≡ m = omega arith in ap (λ j. take j xs) (sym e) ∙ take-add k (m - k) xs) in
    λ h. p (subst (λ (l : List ℕ). Contains l 10) (sym split) (Contains-append_left (take k xs) _ 10 h))

pub nothing : (xs : List ℕ) → length xs ≡ 0 → xs ≡ []
nothing [] h = refl
nothing (x ∷ xs) h = absurd (omega arith)

-- what was read of the source since the call began, and how far it was searched
pub record SoFar (before : Option (List ℕ)) (pending held : List ℕ) (searched : ℕ) (now : Option (List ℕ)) : Type 0 where
  pub read : List ℕ
  pub gives : Gives before read now
  pub same : held ≡ pending ++ read
  pub low : searched ≤ length held
  pub unended : IsUnended (take searched held)

pub starts : (before : Option (List ℕ)) (pending : List ℕ) → SoFar before pending pending 0 before
starts before pending = record { read = []; gives = λ rest h. h; same = sym (append-nil pending); low = omega arith; unended = unended_nothing }

-- the first line's end, as it was found
pub ends_at : (bytes : List ℕ) (n : ℕ) → (n < length bytes) × (bytes ≡ take n bytes ++ 10 ∷ drop (n + 1) bytes) × (Contains (take n bytes) 10 → ⊥) → EndsAt bytes n
ends_at bytes n h = record { within = h.0; split = h.1; before = h.2 }

pub ends_behind : (held : List ℕ) (searched n : ℕ) → IsUnended (take searched held) → EndsAt (drop searched held) n → IsUnended (take (searched + n) held)
ends_behind held searched n p e = rw (take-add searched n held) (unended_append _ _ p e.before)

pub split_behind : (held : List ℕ) (searched n : ℕ) → EndsAt (drop searched held) n → held ≡ take (searched + n) held ++ 10 ∷ drop (searched + n + 1) held
split_behind held searched n e =
    let rest : drop (n + 1) (drop searched held) ≡ drop (searched + n + 1) held = drop-drop (n + 1) searched held ∙ (let k : searched + (n + 1) ≡ searched + n + 1 = omega arith in ap (λ j. drop j held) k) in
    let behind : drop searched held ≡ take n (drop searched held) ++ 10 ∷ drop (searched + n + 1) held = e.split ∙ ap (λ l. take n (drop searched held) ++ 10 ∷ l) rest in
    sym (take-append-drop searched held) ∙ ap (λ l. take searched held ++ l) behind ∙ sym (append_assoc (take searched held) (take n (drop searched held)) (10 ∷ drop (searched + n + 1) held)) ∙ ap (λ l. l ++ 10 ∷ drop (searched + n + 1) held) (sym (take-add searched n held))

found : (before : Option (List ℕ)) (pending held : List ℕ) (searched n : ℕ) (now : Option (List ℕ)) (line : Vec ℕ Global) (still : List ℕ) → SoFar before pending held searched now → EndsAt (drop searched held) n → searched + n ≤ 65_536 → line.items ≡ take (searched + n) held → still ≡ drop (searched + n + 1) held → TakesLine before pending (Ok (Some line)) still now
found before pending held searched n now line still s e short is left = record {
  read = s.read;
  gives = s.gives;
  line = (
    sym s.same ∙ split_behind held searched n e ∙ ap (λ l. l ++ 10 ∷ drop (searched + n + 1) held) (sym is) ∙ ap (λ l. line.items ++ 10 ∷ l) (sym left),
    rw is (omega (arith, length-take (searched + n) held)),
    rw is (ends_behind held searched n s.unended e),
  );
}

too_long_found : (before : Option (List ℕ)) (pending held : List ℕ) (searched n : ℕ) (now : Option (List ℕ)) → SoFar before pending held searched now → EndsAt (drop searched held) n → 65_536 < searched + n → TakesLine before pending (Err TooLong) held now
too_long_found before pending held searched n now s e long = record {
  read = s.read;
  gives = s.gives;
  line = rw (← s.same) (refl, omega (arith, length-drop searched held, e.within), unended_front 65_537 (searched + n) held (omega arith) (ends_behind held searched n s.unended e));
}

-- what is answered where a line's end was found
pub given : (before : Option (List ℕ)) (pending held : List ℕ) (searched n : ℕ) (now : Option (List ℕ)) (result : Result (Option (Vec ℕ Global)) LineError) (still : List ℕ) → SoFar before pending held searched now → EndsAt (drop searched held) n
    → IfOk result (λ o. IfSome o (λ line. (searched + n ≤ 65_536) × (line.items ≡ take (searched + n) held) × (still ≡ drop (searched + n + 1) held))) → IfOk result (λ o. o ≡ None → ⊥)
    → IfErr result (λ e. ((e ≡ TooLong) × (65_536 < searched + n)) ⊎ (e ≡ Memory)) → OnErr result (still ≡ held) → TakesLine before pending result still now
given before pending held searched n now (Ok (Some line)) still s e is some cause same = found before pending held searched n now line still s e is.0 is.1 is.2
given before pending held searched n now (Ok None) still s e is some cause same = absurd (some refl)
given before pending held searched n now (Err TooLong) still s e is some (inl long) same = rw same (too_long_found before pending held searched n now s e long.1)
given before pending held searched n now (Err Memory) still s e is some cause same = record { read = s.read; gives = s.gives; line = same ∙ s.same }
given before pending held searched n now (Err other) still s e is some (inl long) same = rw (long.0, same) (too_long_found before pending held searched n now s e long.1)
given before pending held searched n now (Err other) still s e is some (inr memory) same = rw memory (record { read = s.read; gives = s.gives; line = same ∙ s.same })

-- none of it is the source's fault
pub no_fault : (n : ℕ) (result : Result (Option (Vec ℕ Global)) LineError) → IfErr result (λ e. ((e ≡ TooLong) × (65_536 < n)) ⊎ (e ≡ Memory)) → result ≡ Err ReadFault → ⊥
no_fault n (Ok o) cause is = cc
no_fault n (Err e) (inl long) is = let same : e ≡ ReadFault = cc in cc (same, long.0)
no_fault n (Err e) (inr memory) is = let same : e ≡ ReadFault = cc in cc (same, memory)

pub too_long : (before : Option (List ℕ)) (pending held : List ℕ) (searched : ℕ) (now : Option (List ℕ)) → SoFar before pending held searched now → IsUnended (drop searched held) → 65_536 < length held → TakesLine before pending (Err TooLong) held now
too_long before pending held searched now s none long = record {
  read = s.read;
  gives = s.gives;
  line = rw (← s.same) (refl, long, unended_take 65_537 held (unended_whole searched held s.unended none));
}

pub inside : (before : Option (List ℕ)) (pending held : List ℕ) (searched : ℕ) (now : Option (List ℕ)) (more still : List ℕ) (after : Option (List ℕ)) → SoFar before pending held searched now → IsUnended (drop searched held) → 0 < length held → length held ≤ 65_536 → length more ≡ 0 → still ≡ held ++ more → Gives now more after → IsShownAs after [] → TakesLine before pending (Err Unended) still after
inside before pending held searched now more still after s unended some short none is gives end =
    let same : still ≡ pending ++ (s.read ++ more) = is ∙ ap (λ l. l ++ more) s.same ∙ append_assoc pending s.read more in
    let held_is : still ≡ held = is ∙ ap (λ l. held ++ l) (nothing more none) ∙ append-nil held in
    record {
      read = s.read ++ more;
      gives = gives_more before now after s.read more s.gives gives;
      line = rw (← same) (refl, rw held_is some, rw held_is short, rw held_is (unended_whole searched held s.unended unended), end);
    }

-- the end of the input behind a line's end
pub ended : (before : Option (List ℕ)) (pending held : List ℕ) (searched : ℕ) (now : Option (List ℕ)) (more still : List ℕ) (after : Option (List ℕ)) → SoFar before pending held searched now → length held ≡ 0 → length more ≡ 0 → still ≡ held ++ more → Gives now more after → IsShownAs after [] → TakesLine before pending (Ok None) still after
ended before pending held searched now more still after s empty none is gives end =
    let same : still ≡ pending ++ (s.read ++ more) = is ∙ ap (λ l. l ++ more) s.same ∙ append_assoc pending s.read more in
    let still_is : still ≡ [] = is ∙ ap (λ l. held ++ l) (nothing more none) ∙ append-nil held ∙ nothing held empty in
    record { read = s.read ++ more; gives = gives_more before now after s.read more s.gives gives; line = (sym same ∙ still_is, still_is, end) }

pub forgotten : (before : Option (List ℕ)) (pending held : List ℕ) (searched : ℕ) (now : Option (List ℕ)) (still : List ℕ) (after : Option (List ℕ)) → SoFar before pending held searched now → still ≡ held → Gives now [] after → TakesLine before pending (Err Memory) still after
forgotten before pending held searched now still after s is gives = record {
  read = s.read ++ [];
  gives = gives_more before now after s.read [] s.gives gives;
  line = rw append-nil (is ∙ s.same);
}

pub failed : (before : Option (List ℕ)) (pending held : List ℕ) (searched : ℕ) (now : Option (List ℕ)) (still : List ℕ) (after : Option (List ℕ)) → SoFar before pending held searched now → IsUnended (drop searched held) → still ≡ held → Gives now [] after → TakesLine before pending (Err ReadFault) still after
failed before pending held searched now still after s unended is gives = record {
  read = s.read ++ [];
  gives = gives_more before now after s.read [] s.gives gives;
  line = rw (append-nil s.read, ← s.same, is) (refl, unended_whole searched held s.unended unended);
}

-- THE COUNT OF FAULTS

pub never_less : (before now : ℕ) → now ≡ before → before ≤ now
never_less before now same = omega (arith, same)

pub then_more : (before now after : ℕ) → now ≡ before → now ≤ after → before ≤ after
then_more before now after same more = omega (arith, same, more)

pub then_rose : (before now after : ℕ) → now ≡ before → Rose now after → Rose before after
then_rose before now after same rose = subst (λ k. Rose k after) same rose

pub held_no_fault : {T : Type 0} (result : Result T LineError) → result ≡ Err TooLong → result ≡ Err ReadFault → ⊥
held_no_fault result told is = cc

pub inside_no_fault : {T : Type 0} (result : Result T LineError) → result ≡ Err Unended → result ≡ Err ReadFault → ⊥
inside_no_fault result told is = cc

pub memory_no_fault : {T : Type 0} (result : Result T LineError) → result ≡ Err Memory → result ≡ Err ReadFault → ⊥
memory_no_fault result told is = cc

pub goes_on : (before : Option (List ℕ)) (pending held : List ℕ) (searched : ℕ) (now : Option (List ℕ)) (more still : List ℕ) (after : Option (List ℕ)) → SoFar before pending held searched now → IsUnended (drop searched held) → still ≡ held ++ more → Gives now more after → SoFar before pending still (length held) after
goes_on before pending held searched now more still after s unended is gives = record {
  read = s.read ++ more;
  gives = gives_more before now after s.read more s.gives gives;
  same = is ∙ ap (λ l. l ++ more) s.same ∙ append_assoc pending s.read more;
  low = rw is (omega (arith, length-append held more));
  unended = rw (is, take-append_seam held more) (unended_whole searched held s.unended unended);
}
