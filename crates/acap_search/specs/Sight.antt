-- What a user may see of an entry [RFC 2244 sections 3.5 and 6.4.1].
use Rattle.std.specs.Prelude.{ℕ, Bool, true, false, not, ◌&&◌, ◌||◌, List, Option, Some, None, codes}
use Rattle.std.specs.Prelude.{if◌then◌else◌}
use Rattle.std.specs.FinMap as map
use Rattle.std.specs.Option.{option_and_then}
use Rattle.acap_entries.specs.Store.{Stored}
use Rattle.acap_entries.specs.declared.record.Cell.{Cell}
use Rattle.acap_entries.specs.declared.record.Cell.TheVariants.{Nil, Single, Multi}
use Rattle.acap_inherit.specs.Records.{record_at}
use Rattle.acap_inherit.specs.Resolving.{Resolution, lookup}
use Rattle.acap_rights.specs.Deciding.{OfEntry, rights_of}
use Rattle.acap_rights.specs.declared.realm.Realm.{Realm}
use Rattle.acap_rights.specs.declared.rights.Rights.{Rights}

-- the four answers about an entry, each for every attribute: a search depends on nothing but them
pub record Answers : Type 0 where
  -- its value at the level read, else NIL
  pub read : List ℕ → Cell
  -- its value at the level test or read, else NIL
  pub test : List ℕ → Cell
  -- its access control list in the record of the searched dataset, where the level is read
  pub acl : List ℕ → Option (List (List ℕ))
  -- the user's rights on it
  pub rights : List ℕ → Rights

-- to be read takes the right r, to be tested x or r
abbrev pub may_read : Rights → Bool
may_read rights = rights.r

abbrev pub may_test : Rights → Bool
may_test rights = rights.x || rights.r

-- a level is held in the searched dataset and also where the value lies; NIL lies nowhere
abbrev pub is_held : (Rights → Bool) → Rights → (List ℕ → Rights) → Resolution → Bool
is_held may here rights_in None = may here
is_held may here rights_in (Some found) = may here && may (rights_in found.1)

-- the value at a level
abbrev pub cell_at : (Rights → Bool) → Rights → (List ℕ → Rights) → Resolution → Cell
cell_at may here rights_in None = Nil
cell_at may here rights_in (Some found) = if is_held may here rights_in (Some found) then found.0 else Nil

-- the list of an attribute in the record of an entry
abbrev pub own_acl : Stored → List ℕ → List ℕ → List ℕ → Option (List (List ℕ))
own_acl records dataset name attribute =
    option_and_then (λ entry. map.get entry.acls attribute) (record_at records dataset name)

-- the rights of a user on an attribute of an entry, in some dataset
abbrev pub rights_on : Stored → Realm → List ℕ → List ℕ → List ℕ → List ℕ → Rights
rights_on records realm user attribute name dataset =
    rights_of records realm user (OfEntry dataset attribute name)

-- whether what an attribute of the entry of a name resolves to is at the level read, even where it is NIL
abbrev pub is_readable : Stored → Realm → List ℕ → List ℕ → List (List ℕ) → List ℕ → List ℕ → Bool
is_readable records realm user dataset chain name attribute =
    is_held may_read (rights_on records realm user attribute name dataset)
    (rights_on records realm user attribute name) (lookup records chain name attribute)

-- the answers about the entry of a name in a dataset that has this chain
abbrev pub answers_at : Stored → Realm → List ℕ → List ℕ → List (List ℕ) → List ℕ → Answers
answers_at records realm user dataset chain name =
    let rights_in : List ℕ → List ℕ → Rights = λ attribute. rights_on records realm user attribute name in
    record {
      read = λ attribute. cell_at may_read (rights_in attribute dataset) (rights_in attribute)
          (lookup records chain name attribute);
      test = λ attribute. cell_at may_test (rights_in attribute dataset) (rights_in attribute)
          (lookup records chain name attribute);
      acl = λ attribute. if is_readable records realm user dataset chain name attribute
          then own_acl records dataset name attribute else None;
      rights = λ attribute. rights_in attribute dataset;
    }

-- whether a value is there
abbrev pub is_nil : Cell → Bool
is_nil Nil = true
is_nil (Single text) = false
is_nil (Multi texts) = false

-- an entry is seen where its name is at the level read
abbrev pub is_seen : Answers → Bool
is_seen answers = not (is_nil (answers.read (codes "entry")))
