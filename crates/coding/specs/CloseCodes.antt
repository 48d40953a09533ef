-- The status codes of close frames (RFC 6455, 7.4), in the classes of the Rust's CloseCode.
use Rattle.std.specs.Prelude.{Bool, true, false, List, [], ◌∷◌, ℕ}
use Rattle.base.specs.Table.{Row, ◌to◌is◌, value_at}
use Rattle.coding.specs.declared.close_code.CloseCode.{CloseCode}
use Rattle.coding.specs.declared.close_code.CloseCode.TheVariants.{Normal, Away, Protocol, Unsupported, Status, Abnormal, Invalid, Policy, Size, Extension, Error, Restart, Again, Tls, Reserved, Iana, Library, Bad}

-- the single codes of RFC 6455, 7.4.1, with 1012 and 1013 of IANA's registry, and the ranges of 7.4.2; any other code is bad
abbrev pub class_rows : ℕ → List (Row CloseCode)
class_rows n =
    (1000 to 1000 is Normal)
    ∷ (1001 to 1001 is Away)
    ∷ (1002 to 1002 is Protocol)
    ∷ (1003 to 1003 is Unsupported)
    ∷ (1005 to 1005 is Status)
    ∷ (1006 to 1006 is Abnormal)
    ∷ (1007 to 1007 is Invalid)
    ∷ (1008 to 1008 is Policy)
    ∷ (1009 to 1009 is Size)
    ∷ (1010 to 1010 is Extension)
    ∷ (1011 to 1011 is Error)
    ∷ (1012 to 1012 is Restart)
    ∷ (1013 to 1013 is Again)
    ∷ (1015 to 1015 is Tls)
    ∷ (1016 to 2999 is Reserved n) ∷ (3000 to 3999 is Iana n) ∷ (4000 to 4999 is Library n) ∷ []

unfoldable pub class_of : ℕ → CloseCode
class_of n = value_at (class_rows n) (Bad n) n

-- the code of a class: the single one, or the one that the class keeps
abbrev pub class_code : CloseCode → ℕ
class_code Normal = 1000
class_code Away = 1001
class_code Protocol = 1002
class_code Unsupported = 1003
class_code Status = 1005
class_code Abnormal = 1006
class_code Invalid = 1007
class_code Policy = 1008
class_code Size = 1009
class_code Extension = 1010
class_code Error = 1011
class_code Restart = 1012
class_code Again = 1013
class_code Tls = 1015
class_code (Reserved n) = n
class_code (Iana n) = n
class_code (Library n) = n
class_code (Bad n) = n

-- the classes whose codes a peer may send
abbrev pub allowed_class : CloseCode → Bool
allowed_class Normal = true
allowed_class Away = true
allowed_class Protocol = true
allowed_class Unsupported = true
allowed_class Status = false
allowed_class Abnormal = false
allowed_class Invalid = true
allowed_class Policy = true
allowed_class Size = true
allowed_class Extension = true
allowed_class Error = true
allowed_class Restart = true
allowed_class Again = true
allowed_class Tls = false
allowed_class (Reserved n) = false
allowed_class (Iana n) = true
allowed_class (Library n) = true
allowed_class (Bad n) = false

-- "Codes 1000 to 1003, 1007 to 1013 and 3000 to 4999 are allowed"
abbrev pub allowed_rows : List (Row Bool)
allowed_rows = (1000 to 1003 is true) ∷ (1007 to 1013 is true) ∷ (3000 to 4999 is true) ∷ []

unfoldable pub allowed : ℕ → Bool
allowed n = value_at allowed_rows false n
