-- Writers and readers of values made of parts, and what was written read back.
use Rattle.std.proofs.Common.{List, [], ap, append_assoc, arith, length, length-append, refl, sym, ℕ, ◌++◌, ◌<◌, ◌∙◌, ◌≡◌}
use Rattle.mar_types.specs.Codec.{AppendsFront, HasNoFront, IsUnambiguous, Joined, Takes}
use Rattle.std.proofs.lemmas.List.{append-nil, append_cancel_left}

-- the first part failed to be written whole
pub joined_appends_first : (first second old new : List ℕ) → AppendsFront first old new → AppendsFront (first ++ second) old new
joined_appends_first first second old new a = record {
  front = a.front;
  missing = a.missing ++ second;
  spelled = ap (λ xs. xs ++ second) a.spelled ∙ append_assoc a.front a.missing second;
  appended = a.appended;
}

-- the second part failed to be written whole
pub joined_appends_second : (first second old mid new : List ℕ) → mid ≡ old ++ first → AppendsFront second mid new → AppendsFront (first ++ second) old new
joined_appends_second first second old mid new before a = record {
  front = first ++ a.front;
  missing = a.missing;
  spelled = ap (λ xs. first ++ xs) a.spelled ∙ sym (append_assoc first a.front a.missing);
  appended = a.appended ∙ ap (λ xs. xs ++ a.front) before ∙ append_assoc old first a.front;
}

pub joined_takes : (First Second : List ℕ → Type 0) (first second old mid new : List ℕ) → Takes First first old mid → Takes Second second mid new → Takes (Joined First Second) (first ++ second) old new
joined_takes First Second first second old mid new f s = record {
  in_grammar = record { first = first; second = second; first_is = f.in_grammar; second_is = s.in_grammar; spelled = refl };
  taken = f.taken ∙ ap (λ xs. first ++ xs) s.taken ∙ sym (append_assoc first second new);
}

-- no first part stands at the front
pub joined_no_first : (First Second : List ℕ → Type 0) (bytes : List ℕ) → HasNoFront First bytes → HasNoFront (Joined First Second) bytes
joined_no_first First Second bytes none front rest is e =
    none is.first (is.second ++ rest) is.first_is (e ∙ ap (λ xs. xs ++ rest) is.spelled ∙ append_assoc is.first is.second rest)

after_first : (First Second : List ℕ → Type 0) (bytes first after front rest : List ℕ) → IsUnambiguous First → First first → bytes ≡ first ++ after → (is : Joined First Second front) → bytes ≡ front ++ rest → after ≡ is.second ++ rest
after_first First Second bytes first after front rest one f is_first is e =
    let whole : first ++ after ≡ is.first ++ (is.second ++ rest) = sym is_first ∙ e ∙ ap (λ xs. xs ++ rest) is.spelled ∙ append_assoc is.first is.second rest in
    let same : first ≡ is.first = one first is.first after (is.second ++ rest) f is.first_is whole in
    append_cancel_left first after (is.second ++ rest) (whole ∙ ap (λ xs. xs ++ (is.second ++ rest)) (sym same))

-- after the first part no second one stands
pub joined_no_second : (First Second : List ℕ → Type 0) (bytes first after : List ℕ) → IsUnambiguous First → First first → bytes ≡ first ++ after → HasNoFront Second after → HasNoFront (Joined First Second) bytes
joined_no_second First Second bytes first after one f is_first none front rest is e =
    none is.second rest is.second_is (after_first First Second bytes first after front rest one f is_first is e)

pub joined_unambiguous : (First Second : List ℕ → Type 0) → IsUnambiguous First → IsUnambiguous Second → IsUnambiguous (Joined First Second)
joined_unambiguous First Second one two front other rest left f o e =
    let whole : front ++ rest ≡ f.first ++ (f.second ++ rest) = ap (λ xs. xs ++ rest) f.spelled ∙ append_assoc f.first f.second rest in
    let whole_other : other ++ left ≡ o.first ++ (o.second ++ left) = ap (λ xs. xs ++ left) o.spelled ∙ append_assoc o.first o.second left in
    let firsts : f.first ≡ o.first = one f.first o.first (f.second ++ rest) (o.second ++ left) f.first_is o.first_is (sym whole ∙ e ∙ whole_other) in
    let after : f.second ++ rest ≡ o.second ++ left = after_first First Second (front ++ rest) f.first (f.second ++ rest) other left one f.first_is whole o e in
    let seconds : f.second ≡ o.second = two f.second o.second rest left f.second_is o.second_is after in
    f.spelled ∙ ap (λ xs. xs ++ f.second) firsts ∙ ap (λ xs. o.first ++ xs) seconds ∙ sym o.spelled

-- What was written of a value in the grammar is read back, whatever follows: the reader takes that spelling ..
pub reads_back : (InGrammar : List ℕ → Type 0) (written rest front new : List ℕ) → IsUnambiguous InGrammar → InGrammar written → Takes InGrammar front (written ++ rest) new → front ≡ written
reads_back InGrammar written rest front new one is t = sym (one written front rest new is t.in_grammar t.taken)

-- .. and leaves what follows ..
pub leaves_rest : (InGrammar : List ℕ → Type 0) (written rest front new : List ℕ) → IsUnambiguous InGrammar → InGrammar written → Takes InGrammar front (written ++ rest) new → new ≡ rest
leaves_rest InGrammar written rest front new one is t =
    sym (append_cancel_left written rest new (t.taken ∙ ap (λ xs. xs ++ new) (reads_back InGrammar written rest front new one is t)))

-- where no front is in the grammar, the whole isn't
pub no_whole : (InGrammar : List ℕ → Type 0) (bytes : List ℕ) → HasNoFront InGrammar bytes → InGrammar bytes → ⊥
no_whole InGrammar bytes none is = none bytes [] is (sym (append-nil bytes))

-- where bytes are left after a value, the whole is no value
pub overlong_is_no_whole : (InGrammar : List ℕ → Type 0) (bytes front extra : List ℕ) → IsUnambiguous InGrammar → InGrammar front → bytes ≡ front ++ extra → 0 < length extra → InGrammar bytes → ⊥
overlong_is_no_whole InGrammar bytes front extra one f spelled more is =
    let same : front ≡ bytes = one front bytes extra [] f is (sym spelled ∙ sym (append-nil bytes)) in
    omega (arith, ap length same, ap length spelled, length-append front extra)
