-- Each command that a line stands for names well-formed paths.
use Rattle.std.proofs.Common.{◌≡◌, ℕ, zero, suc, Bool, true, false, ◌&&◌, ◌||◌, List, [], ◌∷◌, ◌++◌, Ok, Err, refl, ap, subst, ◌∙◌, map as each, if◌then◌else◌}
use Rattle.std.specs.Prelude.{take}
use Rattle.std.specs.List.{list_all}
use Rattle.std.proofs.lemmas.Bool.{and_parts, and_from}
use Rattle.acap_commands.specs.declared.command.Command.{Command}
use Rattle.acap_commands.specs.declared.command.Command.TheVariants as command
use Rattle.acap_commands.specs.declared.event.Event.TheVariants as event
use Rattle.acap_commands.specs.declared.object_name.ObjectName.{ObjectName}
use Rattle.acap_commands.specs.declared.object_name.ObjectName.TheVariants as object_name
use Rattle.acap_commands.specs.declared.store.StoreEntry.{StoreEntry}
use Rattle.acap_entries.proofs.FormLemmas.{argument_dataset, path_dataset, path_name, read_closed}
use Rattle.acap_entries.proofs.OwnLaws.{cut_closed, dataset_cut}
use Rattle.acap_entries.specs.FullPaths.{is_well_formed}
use Rattle.acap_entries.specs.Names.{slash, has, begins_with, ends_with, dataset_len, dataset_of, name_of, is_closed_dataset, is_dataset_argument, is_entry_name, is_path}
use Rattle.acap_entries.specs.declared.path.Path.{Path}
use Rattle.acap_grammar.proofs.SendableReads.{reads_sendable}
use Rattle.acap_grammar.specs.Arguments.{dataset_named, entry_named, path_named}
use Rattle.acap_grammar.specs.Grammar.{command_of}
use Rattle.acap_grammar.specs.Sendable.{Names, Each, IsEntry, IsObject, IsSendable}
use Rattle.acap_grammar.specs.Spelling.{dataset_text}
use Rattle.acap_grammar.specs.declared.command_fault.CommandFault.{CommandFault}
use Rattle.acap_lexer.specs.Token.{Token}
use Rattle.acap_machine.proofs.NamedLemmas.{IsWellNamed, list_formed}
use Rattle.acap_machine.specs.Following.{is_named}

-- ---- what is read as a name

good_if : {A : Type 0} (b : Bool) (made name : A) (fault : CommandFault) → (if b then Ok made else Err fault) ≡ Ok name → (b ≡ true) × (made ≡ name)
good_if true made name fault e = (refl, cc)
good_if false made name fault e = absurd cc

begun : (n : ℕ) (text : List ℕ) → begins_with slash (take n text) ≡ true → has slash text ≡ true
begun zero [] e = absurd cc
begun (suc n) [] e = absurd cc
begun zero (x ∷ xs) e = absurd cc
begun (suc n) (x ∷ xs) e = ap (λ b. b || has slash xs) e

path_begins : (text : List ℕ) → is_path text ≡ true → begins_with slash (dataset_of text) ≡ true
unfolding is_path
path_begins text e = (and_parts _ _ (and_parts _ _ (and_parts _ _ (and_parts _ _ e).0).0).1).0

path_ends : (text : List ℕ) → is_path text ≡ true → ends_with slash (dataset_of text) ≡ true
unfolding dataset_of
path_ends text e = ap (ends_with slash) (dataset_cut text) ∙ cut_closed text (begun (dataset_len text) text (path_begins text e))

path_formed : (text : List ℕ) (p : Path) → Names path_named text p → is_well_formed p ≡ true
unfolding path_named
path_formed text p e =
    let good = good_if (is_path text) _ p _ e in
    subst (λ (q : Path). is_well_formed q ≡ true) good.1
    (and_from (is_closed_dataset (dataset_of text)) (is_entry_name (name_of text)) (path_dataset text good.0 (path_ends text good.0)) (path_name text good.0))

dataset_formed : (text name : List ℕ) → Names dataset_named text name → is_closed_dataset name ≡ true
unfolding dataset_named
dataset_formed text name e =
    let good = good_if (is_dataset_argument text) _ name _ e in
    subst (λ d. is_closed_dataset d ≡ true) good.1 (read_closed text (argument_dataset text good.0))

entry_formed : (dataset text name : List ℕ) → Names (entry_named dataset) text name → is_entry_name name ≡ true
unfolding entry_named
entry_formed dataset text name e =
    let good = good_if (is_entry_name text && is_path (dataset ++ text)) text name _ e in
    subst (λ n. is_entry_name n ≡ true) good.1 (and_parts _ _ good.0).0

-- ---- commands

entries_formed : (before entries : List StoreEntry) → Each IsEntry before entries → list_all is_well_formed (each (λ e. e.path) entries) ≡ true
entries_formed before [] all = refl
entries_formed before (e ∷ entries) all = and_from _ _ (path_formed _ e.path all.0.path) (entries_formed (before ++ e ∷ []) entries all.1)

object_named : (o : ObjectName) → IsObject o → IsWellNamed o
object_named (object_name.Dataset dataset) is = dataset_formed (dataset_text dataset) dataset is
object_named (object_name.Attribute dataset attribute) is = dataset_formed (dataset_text dataset) dataset is.0
object_named (object_name.Entry dataset attribute name) is = (dataset_formed (dataset_text dataset) dataset is.0, entry_formed dataset name name is.2)

object_formed : (o : ObjectName) (identifier letters : List ℕ) → IsObject o → is_named (event.Command (command.SetAcl o identifier letters)) ≡ true
object_formed o identifier letters is = list_formed o (object_named o is)

sendable_formed : (c : Command) → IsSendable c → is_named (event.Command c) ≡ true
sendable_formed (command.Store entries) is = entries_formed [] entries is.1
sendable_formed (command.SetAcl object identifier letters) is = object_formed object identifier letters is
sendable_formed (command.DeleteAcl object identifier) is = object_formed object [] [] is
sendable_formed c is = refl

pub command_formed : (tokens : List Token) (c : Command) → command_of tokens ≡ Ok c → is_named (event.Command c) ≡ true
command_formed tokens c e = sendable_formed c (reads_sendable tokens c e)
