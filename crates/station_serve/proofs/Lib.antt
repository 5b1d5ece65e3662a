mod InPlace
