-- What is left of a store that is as it was.
use Rattle.std.proofs.Common.{◌≡◌, List, refl}
use Rattle.std.proofs.lemmas.List.Elements.{Contains-append_left}
use Rattle.mar_store.specs.Changes.{Fails, Left}
use Rattle.mar_store.specs.Kept.{At}

pub fails_unchanged : {P : Type 0} (old left : Left (At P)) (more : List (At P)) → left ≡ old → Fails old more left
fails_unchanged old left more is = rw is (record { sure = refl; may_kept = λ x there. there; may = λ x there. Contains-append_left old.may more x there })
