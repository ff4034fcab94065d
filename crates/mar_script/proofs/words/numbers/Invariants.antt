use Rattle.std.proofs.Common.{List, decimal, map, take, ℕ, ◌≡◌}
use Rattle.std.specs.List.{AllByRecursion}
use Rattle.mar_types.specs.Varint.{IsNumber}
use Rattle.mar_script.specs.Words.{words_of}
use Rattle.mar_script.proofs.words.numbers.Given as goal

abbrev pub invariant-loop-word : goal.invariant-loop-word
invariant-loop-word l = record {
  found : words_of (take l.word-index l.words) ≡ map decimal l.numbers.items;
  only : (ns : List ℕ) → AllByRecursion IsNumber ns → words_of l.words ≡ map decimal ns → l.numbers.items ≡ take l.word-index ns;
}
