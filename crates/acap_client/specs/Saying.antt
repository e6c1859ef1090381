-- What a line says, as the definition of lines has it.
use Rattle.std.specs.Prelude.{◌≡◌, ℕ, List, Option, Some, None, option_map, bytes_eq, codes, if◌then◌else◌}
use Rattle.std.specs.Borrow.{Bor}
use Rattle.acap_grammar.specs.Lines.{Datum, texts_of}
use Rattle.acap_grammar.specs.Lines as lines
use Rattle.acap_client.specs.Arguments.{data_in, value_in, code_in, all_texts}
use Rattle.acap_client.specs.declared.line.Ending.{Ending}
use Rattle.acap_client.specs.declared.line.Ending.TheVariants as ending
use Rattle.acap_client.specs.declared.line.Line.{Line}
use Rattle.acap_client.specs.declared.line.Line.TheVariants as line

abbrev pub tag_in : Option (Bor (List ℕ)) → Option (List ℕ)
tag_in tag = option_map (λ octets. octets.now) tag

abbrev pub ending_of : Ending → lines.Ending
ending_of ending.Done = lines.Done
ending_of ending.Failed = lines.Failed
ending_of ending.Wrong = lines.Wrong

abbrev pub said : Line → lines.Line
said (line.Greeting ds) = lines.Greeting (data_in ds)
said (line.GoOn text) = lines.GoOn text.now
said (line.Entry tag name ds) = lines.Entry (tag_in tag) name.now (data_in ds)
said (line.Moment tag stamp) = lines.Moment (tag_in tag) stamp.now
said (line.AddTo context entry position ds) =
    lines.AddTo context.now entry.now (value_in position) (data_in ds)
said (line.RemoveFrom context entry position) = lines.RemoveFrom context.now entry.now (value_in position)
said (line.Change context entry old new ds) =
    lines.Change context.now entry.now (value_in old) (value_in new) (data_in ds)
said (line.UpTo context stamp) = lines.UpTo context.now stamp.now
said (line.Alert text) = lines.Alert text.now
said (line.Deleted tag name) = lines.Deleted (tag_in tag) name.now
said (line.Rights tag rights) = lines.Rights (tag_in tag) rights.now
said (line.RightsList tag ds) = lines.RightsList (tag_in tag) (all_texts (texts_of (data_in ds)))
said (line.Completion tag ending code text) =
    lines.Completion (tag_in tag) (ending_of ending) (code_in code) text.now
said (line.Bye code text) = lines.Bye (code_in code) text.now

-- a line that was read says this, or nothing where nothing was read
abbrev pub Says : Option Line → Option lines.Line → Type 0
Says read says = option_map said read ≡ says

-- a line that begins with two words, and one that begins with a word and something else
abbrev pub twice : List ℕ → List ℕ → List Datum → Option lines.Line
twice first word args =
    if bytes_eq first (codes "*") then lines.untagged word args else lines.tagged (Some first) word args

abbrev pub once : List ℕ → List Datum → Option lines.Line
once first args =
    if bytes_eq first (codes "+") then lines.texted (λ text. lines.alone (lines.GoOn text)) args else None
