-- What is said of how a run ended.
use Rattle.std.specs.Prelude.{◌≡◌, ℕ, List, [], ◌++◌, Option, Some, None, codes, String, string_bytes}
use Rattle.std.specs.Fmt.{decimal}
use Rattle.std.specs.declared.alloc.Global.{Global}
use Rattle.tiger_base.specs.declared.number.FileNo.{FileNo}
use Rattle.scenario_read.specs.declared.stop.ScenarioFault.{ScenarioFault}
use Rattle.tiger_input.specs.declared.status.Status.{Status}
use Rattle.tiger_input.specs.declared.status.Status.TheVariants as statuses

-- this text was pushed behind what the string had
abbrev pub IsPushed : String Global → String Global → List ℕ → Type 0
IsPushed old new text = string_bytes new ≡ string_bytes old ++ text

-- a number behind a word
abbrev pub worded : List ℕ → ℕ → List ℕ
worded word n = word ++ decimal n

-- the scenario, or a file by its number
abbrev pub input_text : Option FileNo → List ℕ
input_text None = codes "scenario"
input_text (Some file) = worded (codes "file ") file.0

-- a broken rule with its numbers
abbrev pub fault_text : ScenarioFault → List ℕ
fault_text f =
    worded (codes "tiger: scenario rule ") f.rule ++ worded (codes " item ") f.item
    ++ worded (codes " left ") f.left ++ worded (codes " right ") f.right

-- the line on standard error; none if all was done
abbrev pub line_of : Status → List ℕ
line_of statuses.Done = []
line_of statuses.Words = codes "tiger: words\n"
line_of (statuses.Absent file) = codes "tiger: absent " ++ input_text file ++ codes "\n"
line_of (statuses.ReadFault file) = codes "tiger: read fault " ++ input_text file ++ codes "\n"
line_of (statuses.Scenario fault) = fault_text fault ++ codes "\n"
line_of statuses.WriteFault = codes "tiger: write fault\n"
line_of statuses.NoMemory = codes "tiger: no memory\n"
line_of (statuses.TooLong file given most) =
    codes "tiger: too long " ++ input_text file ++ worded (codes " given ") given
    ++ worded (codes " most ") most ++ codes "\n"

-- the number that the program ends with
abbrev pub exit_of : Status → ℕ
exit_of statuses.Done = 0
exit_of statuses.Words = 2
exit_of (statuses.Absent file) = 3
exit_of (statuses.ReadFault file) = 4
exit_of (statuses.Scenario fault) = 5
exit_of statuses.WriteFault = 6
exit_of statuses.NoMemory = 7
exit_of (statuses.TooLong file given most) = 8
