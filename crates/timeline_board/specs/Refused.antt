-- The line of a refusal, and the names of the codes that it may have. This project's own.
use Rattle.std.specs.Prelude.{ℕ, List, [], ◌∷◌, ◌++◌, codes, decimal, Option, Some, None, option_map, nat_eq}
use Rattle.std.specs.List.{find, flat_map}
use Rattle.qs_values.specs.declared.span.Span.{Span}
use Rattle.qs_values.specs.declared.refusal.Refusal.{Refusal}

-- a code and its name
abbrev pub Named : Type 0
Named = ℕ × List ℕ

-- the codes and their names
unfoldable pub names : List Named
names =
    (10, codes "FileTooLong") ∷ (11, codes "MachineNotJson") ∷ (12, codes "FieldMissing") ∷ (13, codes "FieldWrong") ∷ (14, codes "NameDoubled")
    ∷ (15, codes "ControllerUnknown") ∷ (16, codes "QubitUnknown") ∷ (17, codes "FrameWrong") ∷ (18, codes "FamilyWrong") ∷ (19, codes "CalText")
    ∷ (21, codes "TapeNotJson") ∷ (22, codes "TapeFieldWrong") ∷ (23, codes "TapeQubit") ∷ (24, codes "InputWrong") ∷ (25, codes "OrderUnknown")
    ∷ (26, codes "ShotsWrong") ∷ (27, codes "ShotWrong") ∷ (28, codes "LogWrong")
    ∷ (101, codes "NotUtf8") ∷ (102, codes "BadChar") ∷ (103, codes "OpenComment") ∷ (104, codes "OpenText") ∷ (105, codes "NumberTooWide") ∷ (106, codes "TooManyTokens")
    ∷ (111, codes "NoStatement") ∷ (112, codes "TooDeep") ∷ (113, codes "Unsupported") ∷ (114, codes "VersionUnknown")
    ∷ (121, codes "TooWide") ∷ (122, codes "PiTimesPi") ∷ (123, codes "ByZero") ∷ (124, codes "ByPi") ∷ (125, codes "BadPower")
    ∷ (131, codes "UnknownName") ∷ (132, codes "Doubled") ∷ (133, codes "WrongType") ∷ (134, codes "NotConst") ∷ (135, codes "IndexOut")
    ∷ (136, codes "WidthOut") ∷ (137, codes "MixedQubits") ∷ (138, codes "QubitMissing") ∷ (139, codes "TooManyVars") ∷ (140, codes "DivisorNotConst")
    ∷ (141, codes "LoopWordOutside") ∷ (142, codes "IncludeUnknown") ∷ (143, codes "TooManyTurns") ∷ (144, codes "StepZero") ∷ (145, codes "LabelDoubled") ∷ (146, codes "TooManyCases")
    ∷ (151, codes "WrongArity") ∷ (152, codes "RepeatedQubit") ∷ (153, codes "PowNotWhole") ∷ (154, codes "Recursive") ∷ (155, codes "NoControlledForm")
    ∷ (156, codes "TooManyOps") ∷ (157, codes "RegisterSizes") ∷ (158, codes "NoInverse") ∷ (159, codes "AngleTooWide")
    ∷ (160, codes "CalDoubled") ∷ (161, codes "UnknownPort") ∷ (162, codes "UnknownFrame") ∷ (163, codes "UnknownWave") ∷ (164, codes "ForeignFrame")
    ∷ (165, codes "PortOverlap") ∷ (166, codes "FrequencyOut") ∷ (167, codes "NoBit") ∷ (168, codes "CalControl") ∷ (169, codes "CaptureForm")
    ∷ (170, codes "CalTooLong") ∷ (171, codes "NoCalibration")
    ∷ (181, codes "NotDuration") ∷ (182, codes "CoefficientOut") ∷ (183, codes "Negative") ∷ (184, codes "TooLong") ∷ (185, codes "DurationUnknown")
    ∷ (191, codes "StretchNone") ∷ (192, codes "StretchMany") ∷ (193, codes "StretchNegative") ∷ (194, codes "GroupTooLarge") ∷ (195, codes "StretchAcross") ∷ (196, codes "LineOut")
    ∷ (199, codes "NotBuilt")
    ∷ (201, codes "BoxTooLong") ∷ (202, codes "ControlInBox") ∷ (203, codes "TickOut") ∷ (204, codes "DelayNegative") ∷ (211, codes "RunTooLarge")
    ∷ (221, codes "DefDoubled") ∷ (222, codes "DefRecursive") ∷ (223, codes "DefArguments") ∷ (224, codes "DefReturn") ∷ (225, codes "DefPlace") ∷ (226, codes "DefTooLarge") ∷ (227, codes "DefForeign")
    ∷ []

-- the name of a code in a list
abbrev pub name_in : List Named → ℕ → Option (List ℕ)
name_in list code = option_map (λ n. n.1) (find (λ n. nat_eq n.0 code) list)

-- the name of a code that is listed
abbrev pub name_of : ℕ → Option (List ℕ)
name_of code = name_in names code

-- a line and a column
abbrev pub place_text : Option Span → List ℕ
place_text None = []
place_text (Some place) = codes " " ++ decimal place.line ++ codes ":" ++ decimal place.col

-- a word after the name
abbrev pub word_text : List ℕ → List ℕ
word_text word = codes " " ++ word

-- the line of a refusal whose code has this name
abbrev pub refusal_line : List ℕ → Refusal → List ℕ
refusal_line name r =
    codes "refused " ++ decimal r.code ++ place_text r.span ++ codes " " ++ name ++ flat_map word_text r.words ++ codes "\n"
