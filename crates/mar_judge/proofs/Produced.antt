-- What is produced is judged Complete.
use Rattle.std.proofs.Common.{IsFalse, Option, Some, ap, not, refl, subst, sym, ℕ, ◌≡◌, IsTrue}
use Rattle.mar_judge.specs.Produced.{BlocksComplete, FinalizedComplete, NotarizedComplete}
use Rattle.mar_judge.specs.Rules.{Rules, settled}
use Rattle.mar_model.specs.Config.{Config}
use Rattle.mar_model.specs.Judge.{is_lacking}

knows : (rules : Rules) (config : Config) (o : Option ℕ) (e : ℕ) → o ≡ Some e → IsTrue (rules.scoped e) → IsFalse (is_lacking (settled rules config) o)
knows rules config o e is scoped = subst (λ o. IsFalse (is_lacking (settled rules config) o)) (sym is) (ap not scoped)

pub blocks_complete : (rules : Rules) → BlocksComplete rules
blocks_complete rules config b annotations is = (refl, (is, refl, refl, refl))

pub finalized_complete : (rules : Rules) → FinalizedComplete rules
finalized_complete rules config f b annotations read is scoped there digest verifies = (
  knows rules config _ f.round.epoch there scoped,
  (record { read = read; block = is; exactly = refl; epoch = there; height = refl; digest = digest }, verifies),
)

pub notarized_complete : (rules : Rules) → NotarizedComplete rules
notarized_complete rules config f b annotations read is scoped passes named verifies = (ap not scoped, (read, is, refl, refl, passes, verifies, named))
