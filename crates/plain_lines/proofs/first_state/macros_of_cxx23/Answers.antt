use Rattle.plain_lines.proofs.Utf8Lemmas.{fits_23}
use Rattle.plain_lines.proofs.first_state.macros_of_cxx23.Goals as goal

pub define-requires : goal.define-requires
define-requires c = fits_23 c.in_ok-name.name _ c.in_ok-name.ensures c.in_ok-cplusplus_23.ensures
