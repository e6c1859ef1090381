use Rattle.std.proofs.lemmas.List.{take-append-drop}
use Rattle.acap_entries.specs.Names.{dataset_len, dataset_of, name_of}
use Rattle.acap_entries.proofs.laws.path_law.Goals as goal

pub returns : goal.returns
unfolding dataset_of name_of
returns c = λ path. take-append-drop (dataset_len path) path
