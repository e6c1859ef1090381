-- The five rights [RFC 2244 section 3.5].
use Rattle.std.specs.Prelude.{ℕ, Bool, true, false, not, ◌&&◌, ◌||◌, if◌then◌else◌, List, [], ◌∷◌, ◌++◌, map}
use Rattle.std.specs.Prelude.{codes}
use Rattle.acap_rights.specs.declared.rights.Rights.{Rights}

-- those whose letters pass a test
abbrev pub rights_by : (ℕ → Bool) → Rights
rights_by test = record { x = test 120; r = test 114; w = test 119; i = test 105; a = test 97 }

abbrev pub no_rights : Rights
no_rights = rights_by (λ letter. false)

abbrev pub all_rights : Rights
all_rights = rights_by (λ letter. true)

-- those of either, and those of the first that the second doesn't have
abbrev pub union : Rights → Rights → Rights
union p q = record { x = p.x || q.x; r = p.r || q.r; w = p.w || q.w; i = p.i || q.i; a = p.a || q.a }

abbrev pub less : Rights → Rights → Rights
less p q =
    record {
      x = p.x && not q.x;
      r = p.r && not q.r;
      w = p.w && not q.w;
      i = p.i && not q.i;
      a = p.a && not q.a;
    }

abbrev pub if_held : Bool → List ℕ → List ℕ
if_held held letter = if held then letter else []

-- their letters, in the order `xrwia`
abbrev pub letters_of : Rights → List ℕ
letters_of p =
    if_held p.x (codes "x") ++ if_held p.r (codes "r") ++ if_held p.w (codes "w") ++ if_held p.i (codes "i")
    ++ if_held p.a (codes "a")

-- what is listed of rights that an identifier always has: these in one
-- string, and then each other right in a string of its own [section 6.7]
abbrev pub rights_list : Rights → List (List ℕ)
rights_list always = letters_of always ∷ map (λ letter. letter ∷ []) (letters_of (less all_rights always))
