-- What a version allows, as the code has it and as the rules have it.
-- Assumes nothing.
use Rattle.rules.specs.Rules as R
use Rattle.versions.specs.declared.Allowed.{Allowed}

abbrev pub allows_of : Allowed → R.Allows
allows_of a = record {
  electrodes = a.electrodes;
  unicode = a.unicode;
  multiplier = a.multiplier;
  twenty = a.twenty;
  format = a.format;
  eventless = a.eventless;
}
