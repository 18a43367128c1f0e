-- How many connections are served at most, as a literal.
use Rattle.std.proofs.Common.{◌≡◌, refl}
use Rattle.er_words.specs.declared.values.TheConstants.{MAX_CONNECTIONS}

a_million_connections : MAX_CONNECTIONS ≡ 1000000
a_million_connections = refl
