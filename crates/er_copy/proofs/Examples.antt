-- How long an empty log is made, as a literal.
use Rattle.std.proofs.Common.{◌≡◌, refl}
use Rattle.er_copy.specs.declared.TheConstants.{EMPTY_LOG}

pub an_empty_log_has_56_bytes : EMPTY_LOG ≡ 56
an_empty_log_has_56_bytes = refl
