-- What came of a read, as a source's givens are seen.
use Rattle.std.specs.Prelude.{◌≡◌, ℕ, List, [], length, if◌then◌else◌, nat_le, ⊤, Option, IfSome}
use Rattle.std.specs.declared.io.ErrorKind.{ErrorKind}
use Rattle.std.specs.declared.io.ErrorKind.TheVariants as KindIs
use Rattle.scan_model.specs.declared.Outcome.{Outcome}
use Rattle.scan_model.specs.declared.Outcome.TheVariants.{Present as IsPresent, Absent as IsAbsent, Failed as IsFailed, Big as IsBig, NoMemory as IsNoMemory}
use Rattle.scan_model.specs.Limits.{file_limit}
use Rattle.file_source.specs.Givens.{IsGiven}
use Rattle.file_source.specs.declared.given.Came.{Came}
use Rattle.file_source.specs.declared.given.Came.TheVariants.{Present, Absent, Failed, Big, NoMemory}

abbrev pub outcome_of : Came → Outcome
outcome_of (Present bytes) = IsPresent
outcome_of Absent = IsAbsent
outcome_of (Failed came) = IsFailed
outcome_of (Big came) = IsBig
outcome_of (NoMemory came) = IsNoMemory

abbrev pub bytes_of : Came → List ℕ
bytes_of (Present bytes) = bytes
bytes_of Absent = []
bytes_of (Failed came) = []
bytes_of (Big came) = []
bytes_of (NoMemory came) = []

abbrev pub faults_of : Came → ℕ
faults_of (Present bytes) = 0
faults_of Absent = 0
faults_of (Failed came) = 1
faults_of (Big came) = 0
faults_of (NoMemory came) = 0

-- how many bytes came
abbrev pub count_of : Came → ℕ
count_of (Present bytes) = length bytes
count_of Absent = 0
count_of (Failed came) = came
count_of (Big came) = came
count_of (NoMemory came) = came

-- what came has the cause that its outcome asks for
abbrev pub IsCaused : Came → Type 0
IsCaused came = IsGiven (outcome_of came) (bytes_of came) (faults_of came) (count_of came)

-- what came where these are all bytes
abbrev pub came_of_bytes : List ℕ → Came
came_of_bytes bytes = if nat_le (length bytes) file_limit then Present bytes else Big (length bytes)

-- what an error at opening stands for
abbrev pub unopened_as : ErrorKind → Came
unopened_as KindIs.NotFound = Absent
unopened_as KindIs.NotADirectory = Absent
unopened_as KindIs.IsADirectory = Absent
unopened_as KindIs.OutOfMemory = NoMemory 0
unopened_as kind = Failed 0

-- what an error stands for after so many bytes have come
abbrev pub cut_off_as : ErrorKind → ℕ → Came
cut_off_as KindIs.OutOfMemory came = NoMemory came
cut_off_as kind came = Failed came

-- what comes of an open file, of which these bytes are left, where that is known: all of them, where it is Present
abbrev pub IsRead : Option (List ℕ) → Came → Type 0
IsRead left (Present bytes) = IfSome left (λ xs. bytes ≡ xs)
IsRead left Absent = ⊥
IsRead left (Failed came) = ⊤
IsRead left (Big came) = ⊤
IsRead left (NoMemory came) = ⊤
