-- The poll that gave the base of a record.
use Rattle.std.specs.Prelude.{ℕ, Option, Some, None}
use Rattle.status_machine.specs.declared.base.Base.{Base}

-- its number, 0 where no poll did
abbrev pub base_number : Option Base → ℕ
base_number None = 0
base_number (Some base) = base.poll
