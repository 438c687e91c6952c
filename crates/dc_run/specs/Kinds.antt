-- The words of a configuration's faults, as they are told.
use Rattle.std.specs.Prelude.{ℕ, List, codes}
use Rattle.dc_conf.specs.declared.faults.ConfKind.{ConfKind}
use Rattle.dc_conf.specs.declared.faults.ConfKind.TheVariants.{NoColon, Twice, TooMany, NoConfig, NoTemplates, NoName, NoDriver, UnknownDriver, MissingField, BadValue, SamePlace, UnknownDatabase, Cycle, SharedDatabase, PipeUse}

abbrev pub kind_word : ConfKind → List ℕ
kind_word NoColon = codes "NoColon"
kind_word Twice = codes "Twice"
kind_word TooMany = codes "TooMany"
kind_word NoConfig = codes "NoConfig"
kind_word NoTemplates = codes "NoTemplates"
kind_word NoName = codes "NoName"
kind_word NoDriver = codes "NoDriver"
kind_word UnknownDriver = codes "UnknownDriver"
kind_word MissingField = codes "MissingField"
kind_word BadValue = codes "BadValue"
kind_word SamePlace = codes "SamePlace"
kind_word UnknownDatabase = codes "UnknownDatabase"
kind_word Cycle = codes "Cycle"
kind_word SharedDatabase = codes "SharedDatabase"
kind_word PipeUse = codes "PipeUse"
