-- What is said of a fault.
use Rattle.std.specs.Prelude.{ℕ, List, Option, Some, None, codes}
use Rattle.gnap_objects.specs.declared.fault.ObjectFault.{ObjectFault}
use Rattle.gnap_objects.specs.declared.fault.ObjectFault.TheVariants.{Missing, Wrong, TooMany, Flag, Unknown, OutOfMemory}

-- the name of the member at fault
abbrev pub faulty_member : ObjectFault → Option (List ℕ)
faulty_member (Missing name) = Some name
faulty_member (Wrong name) = Some name
faulty_member (TooMany name) = Some name
faulty_member (Flag name) = Some name
faulty_member (Unknown name) = Some name
faulty_member OutOfMemory = None

-- what is wrong with it, in words that stand behind its name
abbrev pub fault_words : ObjectFault → List ℕ
fault_words (Missing name) = codes "is missing"
fault_words (Wrong name) = codes "isn't of its form"
fault_words (TooMany name) = codes "is too long or has too many items"
fault_words (Flag name) = codes "has a flag twice"
fault_words (Unknown name) = codes "isn't known here"
fault_words OutOfMemory = codes "memory ran out"
