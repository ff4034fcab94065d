-- What is taken and written in pieces.
use Rattle.std.proofs.Common.{List, Option, [], append_assoc, drop, take, subst, sym, ap, ℕ, ◌∙◌, ◌++◌, ◌≡◌}
use Rattle.std.proofs.lemmas.List.{append-nil, take-append-drop}
use Rattle.mar_script.specs.Run.{IsShownAs}
use Rattle.mar_script.specs.Streams.{Gives, Takes, TakesFront}

pub gives_more : (a b c : Option (List ℕ)) (xs ys : List ℕ) → Gives a xs b → Gives b ys c → Gives a (xs ++ ys) c
gives_more a b c xs ys g k = λ rest h. rw append_assoc (g (ys ++ rest) (k rest h))

pub takes_none : (a : Option (List ℕ)) → Takes a [] a
takes_none a = λ front h. simp append-nil h

pub takes_more : (a b c : Option (List ℕ)) (xs ys : List ℕ) → Takes a xs b → Takes b ys c → Takes a (xs ++ ys) c
takes_more a b c xs ys g k = λ front h. rw (← append_assoc) (k (front ++ xs) (g front h))

-- what was held back is handed on, and nothing more was written
pub takes_handed : (a b c : Option (List ℕ)) (xs : List ℕ) → Takes a xs b → Takes b [] c → Takes a xs c
takes_handed a b c xs g k = λ front h. subst (λ bytes. IsShownAs c bytes) (append-nil (front ++ xs)) (k (front ++ xs) (g front h))

-- all of the bytes are a front of them
pub takes_whole : (a b : Option (List ℕ)) (xs : List ℕ) → Takes a xs b → TakesFront a xs b
takes_whole a b xs g = (xs, ([], sym (append-nil xs)), g)

pub split_more : (all front rest tail : List ℕ) (n : ℕ) → all ≡ front ++ rest → tail ≡ drop n rest → all ≡ (front ++ take n rest) ++ tail
split_more all front rest tail n is behind = is ∙ ap (λ l. front ++ l) (sym (take-append-drop n rest)) ∙ sym (append_assoc front (take n rest) (drop n rest)) ∙ ap (λ l. (front ++ take n rest) ++ l) (sym behind)
