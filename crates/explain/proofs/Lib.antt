mod ChoiceTexts
mod ListedTexts
mod WrittenLines
mod WorkedRows
