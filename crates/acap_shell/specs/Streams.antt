-- Octets that pass between a terminal and a server, whose lines end in CR LF [RFC 2244 section 2.2].
use Rattle.std.specs.Prelude.{ℕ, ◌==◌, List, [], ◌∷◌, flat_map, if◌then◌else◌}
use Rattle.acap_shell.specs.Escapes.{escape}
use Rattle.acap_shell.specs.declared.form.Form.{Form}
use Rattle.acap_shell.specs.declared.form.Form.TheVariants as form

-- CR and LF
abbrev pub return : ℕ
return = 13

abbrev pub feed : ℕ
feed = 10

-- a line is sent with CR LF, whether it ends in LF or in CR LF
abbrev pub sent : ℕ → List ℕ
sent c = if c == feed then return ∷ feed ∷ [] else (if c == return then [] else c ∷ [])

abbrev pub sent_lines : List ℕ → List ℕ
sent_lines lines = flat_map sent lines

-- a line is printed with LF, and its octets as values are printed
abbrev pub printed : ℕ → List ℕ
printed c = if c == feed then c ∷ [] else (if c == return then [] else escape c)

abbrev pub printed_stream : Form → List ℕ → List ℕ
printed_stream form.Escaped lines = flat_map printed lines
printed_stream form.Raw lines = lines
