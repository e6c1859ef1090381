use Rattle.std.proofs.Common.{◌≡◌, false, true, refl, sym, ap, ◌∙◌}
use Rattle.std.specs.Str.{bytes_eq}
use Rattle.acap_login.specs.Login.{digest_of}
use Rattle.acap_login.proofs.Accepting.{apart}
use Rattle.acap_login.proofs.checking.fits.Goals as goal

pub returns-then-eq : goal.returns-then-eq
returns-then-eq c =
    let name : true ≡ bytes_eq c.args.user.now.0 c.args.name.now = sym c.if-eq.true ∙ c.eq.ensures ∙ ap (λ t. bytes_eq t c.args.name.now) c.as_slice.ensures in
    let digits : c.are_same.result ≡ bytes_eq (digest_of c.args.user.now.1.items c.args.challenge.now) c.args.digits.now = cc (c.are_same.ensures, c.digest.ensures, c.deref.ensures.value) in
    apart c.args.challenge.now c.args.name.now c.args.digits.now c.args.user.now.0 c.args.user.now.1.items true c.are_same.result c.told-digits name digits

pub returns-else-eq : goal.returns-else-eq
returns-else-eq c =
    let name : false ≡ bytes_eq c.args.user.now.0 c.args.name.now = sym c.if-eq.false ∙ c.eq.ensures ∙ ap (λ t. bytes_eq t c.args.name.now) c.as_slice.ensures in
    c.if-eq.false ∙ apart c.args.challenge.now c.args.name.now c.args.digits.now c.args.user.now.0 c.args.user.now.1.items false (bytes_eq (digest_of c.args.user.now.1.items c.args.challenge.now) c.args.digits.now) c.told-digits name refl
