-- The words of a line of the output, as the code has them.
use Rattle.std.specs.Prelude.{List, decimal, ℕ}
use Rattle.mar_inbox.specs.Views.{peers_of}
use Rattle.mar_key.specs.Views.{annotation_of, processed_of}
use Rattle.mar_script.specs.Script.{comma_numbers, hex, peers_text, sentence}
use Rattle.mar_script.specs.Text.{annotation_words, processed_text, round_text}
use Rattle.mar_script.specs.declared.word.Word.{Word}
use Rattle.mar_script.specs.declared.word.Word.TheVariants as word

abbrev pub word_text : Word → List ℕ
word_text (word.Plain letters) = letters.now
word_text (word.Number n) = decimal n
word_text (word.Hex bytes) = hex bytes.now
word_text (word.Round r) = round_text r
word_text (word.Subscriber a) = sentence (annotation_words (annotation_of a))
word_text (word.Processed p) = processed_text (processed_of p)
word_text (word.Peers peers) = comma_numbers peers.now
word_text (word.Recipients recipients) = peers_text (peers_of recipients.now)
