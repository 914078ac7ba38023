-- What follows once a value's word in a replica is known.
use Rattle.table.specs.declared.Replica.{Replica}
use Rattle.table.specs.declared.Operand.{Operand}
use Rattle.table.specs.declared.Then.{Then}
use Rattle.table.specs.declared.Then.TheVariants.{ToWrite, ToStoreCopy, ToFillCopy, ToPut}
use Rattle.table.specs.declared.Place.{Place}
use Rattle.table.specs.declared.Place.TheVariants.{FillCopy, StoreWrite, StoreCopy, Put}

abbrev pub known : Then → Operand Replica → Place
known (ToWrite v) c = StoreWrite v
known ToStoreCopy c = StoreCopy c
known ToFillCopy c = FillCopy c
known (ToPut n job) c = Put n job c
