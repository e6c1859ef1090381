-- Tokens as places in one text of values, as the text grows.
use Rattle.std.proofs.Common.{◌≡◌, ℕ, suc, ◌+◌, ◌-◌, ◌<◌, ◌≤◌, List, [], ◌∷◌, ◌++◌, length, take, drop, get_or, Some, Ok, Err, refl, sym, ap, ◌∙◌, arith, length-append, length-drop}
use Rattle.std.proofs.Math.Seq.{take-append_seam}
use Rattle.std.specs.Prelude.{slice_get, option_map}
use Rattle.std.proofs.lemmas.List.{take-append-le, drop-append-le, drop_at, take_all, map_push, take-append-drop, length-map}
use Rattle.std.proofs.lemmas.Option.{slice_get-map, slice_get-get_or}
use Rattle.acap_lexer.specs.declared.kind.TokenPlace.{TokenPlace}
use Rattle.acap_lexer.specs.declared.kind.Kind.{Kind}
use Rattle.acap_lexer.specs.declared.kind.Kind.TheVariants as kinds
use Rattle.acap_lexer.specs.Token.{Token}
use Rattle.acap_lexer.specs.Part.{with_token, token_of_lexeme}
use Rattle.acap_lexer.specs.Printing.{Grows}
use Rattle.acap_lexer.specs.Reading.{Read, Lexeme, behind, as_string}
use Rattle.acap_lexer.specs.Places.{token_in, tokens_in, IsWithin, AreWithin}

abbrev with_value : TokenPlace → List ℕ → Token
with_value m value = record { kind = m.kind; value = value; start = m.start; end = m.end }

token_grows : (text more : List ℕ) (m : TokenPlace) → IsWithin text m → token_in (text ++ more) m ≡ token_in text m
token_grows text more m w =
    let a : m.value_start ≤ length text = omega (arith, w.start, w.end) in
    let b : m.value_end - m.value_start ≤ length (drop m.value_start text) = omega (arith, length-drop m.value_start text, w.end) in
    let e : take (m.value_end - m.value_start) (drop m.value_start (text ++ more)) ≡ take (m.value_end - m.value_start) (drop m.value_start text) =
    rw (drop-append-le m.value_start text more a, take-append-le (m.value_end - m.value_start) (drop m.value_start text) more b) refl in
    ap (with_value m) e

-- tokens stay as the text grows
pub tokens_grow : (text more : List ℕ) (places : List TokenPlace) → AreWithin text places → tokens_in (text ++ more) places ≡ tokens_in text places
tokens_grow text more [] w = refl
tokens_grow text more (m ∷ places) w = rw (token_grows text more m w.0, tokens_grow text more places w.1) refl

pub within_grow : (text more : List ℕ) (places : List TokenPlace) → AreWithin text places → AreWithin (text ++ more) places
within_grow text more [] w = tt
within_grow text more (m ∷ places) w =
    (record { start = w.0.start; end = omega (arith, w.0.end, length-append text more) }, within_grow text more places w.1)

pub within_push : (text : List ℕ) (places : List TokenPlace) (m : TokenPlace) → AreWithin text places → IsWithin text m → AreWithin text (places ++ m ∷ [])
within_push text [] m w h = (h, tt)
within_push text (n ∷ places) m w h = (w.0, within_push text places m w.1 h)

-- a token more
pub tokens_push : (text : List ℕ) (places : List TokenPlace) (m : TokenPlace) → tokens_in text (places ++ m ∷ []) ≡ tokens_in text places ++ token_in text m ∷ []
tokens_push text places m = map_push (token_in text) places m

-- a token more, whose value is added to the text
pub value_push : (text value : List ℕ) (places : List TokenPlace) (kind : Kind) (start stop from to : ℕ) → AreWithin text places → start ≡ length text → stop ≡ length (text ++ value)
    → tokens_in (text ++ value) places ++ record { kind = kind; value = take (stop - start) (drop start (text ++ value)); start = from; end = to } ∷ []
    ≡ tokens_in text places ++ record { kind = kind; value = value; start = from; end = to } ∷ []
value_push text value places kind start stop from to w s e =
    let len : length value ≤ stop - start = omega (arith, s, e, length-append text value) in
    let is : take (stop - start) (drop start (text ++ value)) ≡ value =
    rw (drop_at text value start (sym s), take_all (stop - start) value len) refl in
    let listed : List ℕ → List Token → List Token = λ xs ts. ts ++ record { kind = kind; value = xs; start = from; end = to } ∷ [] in
    ap (λ ts. listed (take (stop - start) (drop start (text ++ value))) ts) (tokens_grow text value places w) ∙ ap (λ xs. listed xs (tokens_in text places)) is

-- a text that begins with another is that and what follows
grown : (text new : List ℕ) → Grows text new → new ≡ text ++ drop (length text) new
grown text new g = sym (take-append-drop (length text) new) ∙ ap (λ (front : List ℕ). front ++ drop (length text) new) g

-- tokens stay, whatever comes after them in the text
pub tokens_kept : (text new : List ℕ) (places : List TokenPlace) → Grows text new → AreWithin text places → tokens_in new places ≡ tokens_in text places
tokens_kept text new places g w = ap (λ (t : List ℕ). tokens_in t places) (grown text new g) ∙ tokens_grow text (drop (length text) new) places w

pub tokens_grows : (text new : List ℕ) (places : List TokenPlace) → Grows text new → AreWithin text places → Grows (tokens_in text places) (tokens_in new places)
tokens_grows text new places g w = rw (tokens_kept text new places g w) (take_all (length (tokens_in text places)) (tokens_in text places) (omega arith))

-- what a string added to the text, when it did
behind_ok : (text new left : List ℕ) (read : Read (List ℕ)) → behind text read ≡ Ok (new, left) → (value : List ℕ) × (read ≡ Ok (value, left)) × (new ≡ text ++ value)
behind_ok text new left (Ok x) e =
    let p : ◌≡◌ {A = List ℕ × List ℕ} (text ++ x.0, x.1) (new, left) = cc in
    (x.0, ap (λ (l : List ℕ). let r : Read (List ℕ) = Ok (x.0, l) in r) (ap (λ q. q.1) p), sym (ap (λ q. q.0) p))
behind_ok text new left (Err f) e = absurd cc

-- a string that was added to the text
escaped_value : (text value rest left : List ℕ) (places : List TokenPlace) (end start stop : ℕ) → AreWithin text places → start ≡ length text → stop ≡ length (text ++ value)
    → with_token (tokens_in text places) end (34 ∷ rest) (as_string (Ok (value, left)))
    ≡ Ok (tokens_in (text ++ value) places ++ record { kind = kinds.Quoted; value = take (stop - start) (drop start (text ++ value)); start = end - (length rest + 1); end = end - length left } ∷ [], left)
escaped_value text value rest left places end start stop w s e =
    let len : length value ≤ stop - start = omega (arith, s, e, length-append text value) in
    let is : take (stop - start) (drop start (text ++ value)) ≡ value =
    rw (drop_at text value start (sym s), take_all (stop - start) value len) refl in
    let place : end - suc (length rest) ≡ end - (length rest + 1) = omega arith in
    let read : ℕ → List ℕ → List Token → Read (List Token) = λ from xs ts. Ok (ts ++ record { kind = kinds.Quoted; value = xs; start = from; end = end - length left } ∷ [], left) in
    ap (λ from. read from value (tokens_in text places)) place ∙ ap (λ xs. read (end - (length rest + 1)) xs (tokens_in text places)) (sym is)
    ∙ ap (λ ts. read (end - (length rest + 1)) (take (stop - start) (drop start (text ++ value))) ts) (sym (tokens_grow text value places w))

escaped_by : (text new rest left value : List ℕ) (places : List TokenPlace) (end start stop : ℕ) (read : Read (List ℕ)) → read ≡ Ok (value, left) → new ≡ text ++ value → AreWithin text places → start ≡ length text → stop ≡ length new
    → with_token (tokens_in text places) end (34 ∷ rest) (as_string read)
    ≡ Ok (tokens_in new places ++ record { kind = kinds.Quoted; value = take (stop - start) (drop start new); start = end - (length rest + 1); end = end - length left } ∷ [], left)
escaped_by text new rest left value places end start stop read r n w s e = rw (r, n) (escaped_value text value rest left places end start stop w s (e ∙ ap length n))

pub escaped_adds : (text new rest left : List ℕ) (places : List TokenPlace) (end start stop : ℕ) (read : Read (List ℕ)) → AreWithin text places → start ≡ length text → stop ≡ length new → behind text read ≡ Ok (new, left)
    → with_token (tokens_in text places) end (34 ∷ rest) (as_string read)
    ≡ Ok (tokens_in new places ++ record { kind = kinds.Quoted; value = take (stop - start) (drop start new); start = end - (length rest + 1); end = end - length left } ∷ [], left)
escaped_adds text new rest left places end start stop read w s e b =
    let x = behind_ok text new left read b in
    escaped_by text new rest left x.0 places end start stop read x.1 x.2 w s e

pub pushed_grows : (seen new : List Token) (end : ℕ) (front left : List ℕ) (read : Read Lexeme) → with_token seen end front read ≡ Ok (new, left) → Grows seen new
pushed_grows seen new end front left (Err f) e = absurd cc
pushed_grows seen new end front left (Ok x) e =
    let p : ◌≡◌ {A = List Token × List ℕ} (seen ++ token_of_lexeme end front x ∷ [], x.1) (new, left) = cc in
    let n : seen ++ token_of_lexeme end front x ∷ [] ≡ new = ap (λ q. q.0) p in
    ap (take (length seen)) (sym n) ∙ take-append_seam seen (token_of_lexeme end front x ∷ [])

-- the token at an index is that of the place there
pub token_of_place : (text : List ℕ) (places : List TokenPlace) (tokens : List Token) (index : ℕ) (place : TokenPlace) → tokens_in text places ≡ tokens → index < length tokens → place ≡ get_or places index place
    → slice_get tokens index ≡ Some (token_in text place)
token_of_place text places tokens index place view some is =
    let within : index < length places = omega (arith, some, ap length view, length-map places (token_in text)) in
    rw (← view) (slice_get-map (token_in text) places index ∙ ap (option_map (token_in text)) (slice_get-get_or places index place within ∙ ap (λ p. Some p) (sym is)))
